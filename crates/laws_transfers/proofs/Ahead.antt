-- A world's server that is ahead of a drive's, one that was told of the end of a link among them: how it moves with that, and what a data connection has to do
-- with it.
use Rattle.std.proofs.Common.{◌≡◌, ℕ, Bool, true, false, true≢false, List, [], ◌∷◌, ◌++◌, None, refl, sym, ap, ◌∙◌}
use Rattle.ftp_client_model.specs.Calls.{report_of}
use Rattle.ftp_server_model.specs.Calls.{clock_step, close_step, is_upload}
use Rattle.ftp_server_model.specs.View.{Session, Transfer, View as Far}
use Rattle.ftp_server_model.specs.declared.session.ServerLink.{ServerLink}
use Rattle.ftp_server_model.specs.declared.session.ServerLink.TheVariants as Data
use Rattle.ftp_server_model.specs.declared.session.Transfer.TheVariants as Transfers
use Rattle.ftp_server_model.specs.declared.session.Way.TheVariants as Ways
use Rattle.laws_world.specs.Events.{is_closed_by_near}
use Rattle.laws_world.specs.World.{World, port_at}
use Rattle.laws_drivers.specs.control.Between.{Hold}
use Rattle.laws_drivers.specs.world.Ahead as plainly
use Rattle.laws_drivers.specs.world.Ahead.{accepts, is_asked, is_open}
use Rattle.laws_drivers.proofs.world.Ahead as was
use Rattle.laws_drivers.proofs.world.Ahead.{closed_is}
use Rattle.laws_drivers.proofs.world.Served.{settled}
use Rattle.laws_drivers.proofs.world.Settling as settling
use Rattle.laws_drivers.proofs.world.Settling.{Same}
use Rattle.laws_drivers.proofs.events.Holding.{is_called, is_had}
use Rattle.laws_transfers.proofs.Known.{is_ready}
use Rattle.laws_transfers.specs.Ahead.{Ahead, Fits, Level, Listened, Listens, Opens, Parted, ahead_of, far_ahead, is_left, is_parted_ahead}

-- ---- what it says comes after what the drive's is still to say

abbrev owing : List ℕ → Far → Far
owing octets v = record v { owed = octets }

-- a server with this data connection
abbrev linked : ServerLink Transfer → Far → Far
linked link v = record v { session = record v.session { connection = link } }

pub says_after : (ahead : Ahead) (v : Far) → Fits ahead v.session.connection → (octets rest : List ℕ)
    → far_ahead ahead (owing (octets ++ rest) v) ≡ owing (octets ++ (far_ahead ahead (owing rest v)).owed) (far_ahead ahead (owing rest v))
says_after Level v fits octets rest = was.says_after plainly.Level v fits octets rest
says_after Opens v fits octets rest = was.says_after plainly.Opens v fits octets rest
says_after (Listens port) v fits octets rest = was.says_after (plainly.Listens port) v fits octets rest
says_after (Parted accepted) v fits octets rest = refl

-- ---- what stays

-- all that no data connection has to do with
pub record Keeps (ahead : Ahead) (v : Far) : Type 0 where
  pub table : (far_ahead ahead v).session.table ≡ v.session.table
  pub life : (far_ahead ahead v).session.life ≡ v.session.life
  pub waiting : (far_ahead ahead v).waiting ≡ v.waiting
  pub clock : (moment : ℕ) → far_ahead ahead (clock_step moment v) ≡ clock_step moment (far_ahead ahead v)
  pub told : is_asked (far_ahead ahead v).session.connection ≡ false

pub keeps : (ahead : Ahead) (v : Far) → Fits ahead v.session.connection → Keeps ahead v
keeps Level v fits =
    let k = was.keeps plainly.Level v fits in record { table = k.table; life = k.life; waiting = k.waiting; clock = k.clock; told = k.told }
keeps Opens v fits =
    let k = was.keeps plainly.Opens v fits in record { table = k.table; life = k.life; waiting = k.waiting; clock = k.clock; told = k.told }
keeps (Listens port) v fits =
    let k = was.keeps (plainly.Listens port) v fits in record { table = k.table; life = k.life; waiting = k.waiting; clock = k.clock; told = k.told }
keeps (Parted accepted) v fits = record { table = refl; life = refl; waiting = refl; clock = λ moment. refl; told = refl }

-- ahead of one that wants no close
pub far_is : (ahead : Ahead) (v : Far) → v.session.closing ≡ false → far_ahead ahead v ≡ close_step (ahead_of ahead v)
far_is ahead v unclosed = ap (λ u. close_step (ahead_of ahead u)) (closed_is v unclosed)

-- ---- a world that is next

-- how its server is ahead of one that moved
abbrev pub next_ahead : (asked : Bool) → (port : ℕ) → Ahead
next_ahead true port = Listens port
next_ahead false port = Level

-- it was told of no end
pub next_whole : (asked : Bool) (port : ℕ) → is_parted_ahead (next_ahead asked port) ≡ false
next_whole true port = refl
next_whole false port = refl

pub fits_next : (link : ServerLink Transfer) (port : ℕ) → Fits (next_ahead (is_asked link) port) link
fits_next (Data.Asked verb) port = refl
fits_next link port = refl

-- that is no other than where files are fetched alone
far_next : (asked : Bool) (port : ℕ) (v : Far) → plainly.far_world_ahead (settling.next_ahead asked port) v ≡ far_ahead (next_ahead asked port) v
far_next true port v = refl
far_next false port v = refl

listened_next : (asked : Bool) (port here there : ℕ) → plainly.ListenedAhead (settling.next_ahead asked port) here there
    → Listened (next_ahead asked port) here there
listened_next true port here there l = l
listened_next false port here there l = l

pub record FarSettles (old new : World) : Type 0 where
  pub near : new.near ≡ old.near
  pub far : new.far ≡ far_ahead (next_ahead (is_asked old.far.session.connection) (port_at old.listens)) old.far
  pub listens : Listened (next_ahead (is_asked old.far.session.connection) (port_at old.listens)) old.listens new.listens
  pub reports : new.reports ≡ old.reports
  pub same : Same old new

pub far_settles : (w : World) → report_of w.near ≡ None → w.near.closing ≡ false → is_closed_by_near w.link ≡ false → FarSettles w (settled w)
far_settles w none unclosed link =
    let s = settling.far_settles w none unclosed link in
    let asked : Bool = is_asked w.far.session.connection in
    let port : ℕ = port_at w.listens in
    record {
      near = s.near;
      far = s.far ∙ far_next asked port w.far;
      listens = listened_next asked port w.listens (settled w).listens s.listens;
      reports = s.reports;
      same = s.same;
    }

-- ---- how its data connection stands

-- the drive's is still to accept it
abbrev pub is_ahead : Ahead → Bool
is_ahead Opens = true
is_ahead (Parted false) = true
is_ahead ahead = false

-- what is so of a server: one that is to close has none open; it has what is open; and a world is ahead by an opening just where one that waits was dialled
pub record Holds (ahead : Ahead) (hold : Hold) (s : Session) : Type 0 where
  pub shut : s.closing ≡ true → is_open s.connection ≡ false
  pub had : is_open s.connection ≡ true → is_had hold ≡ true
  pub called : is_called hold ≡ true → accepts s.connection ≡ true → is_ahead ahead ≡ true
  pub opened : is_ahead ahead ≡ true → is_called hold ≡ true

-- one that was told of an end was told so of this
abbrev pub left_link : Bool → ServerLink Transfer
left_link true = Data.Ready
left_link false = Data.Passive

pub left_is : (accepted : Bool) (link : ServerLink Transfer) → is_left accepted link ≡ true → link ≡ left_link accepted
left_is true Data.Ready is = refl
left_is false Data.Passive is = refl
left_is false Data.Free is = absurd (true≢false (sym is))
left_is false (Data.Asked verb) is = absurd (true≢false (sym is))
left_is false (Data.Active endpoint) is = absurd (true≢false (sym is))
left_is false Data.Ready is = absurd (true≢false (sym is))
left_is false (Data.Opening transfer way) is = absurd (true≢false (sym is))
left_is false (Data.Transferring transfer) is = absurd (true≢false (sym is))
left_is true Data.Free is = absurd (true≢false (sym is))
left_is true (Data.Asked verb) is = absurd (true≢false (sym is))
left_is true (Data.Active endpoint) is = absurd (true≢false (sym is))
left_is true Data.Passive is = absurd (true≢false (sym is))
left_is true (Data.Opening transfer way) is = absurd (true≢false (sym is))
left_is true (Data.Transferring transfer) is = absurd (true≢false (sym is))

-- it takes no octets, and asked for no port
pub left_rests : (accepted : Bool) (link : ServerLink Transfer) → is_left accepted link ≡ true → (is_upload link ≡ false) × (is_asked link ≡ false)
left_rests accepted link is = (ap is_upload (left_is accepted link is) ∙ untaken accepted, ap is_asked (left_is accepted link is) ∙ unasked accepted)
  where
    untaken : (accepted : Bool) → is_upload (left_link accepted) ≡ false
    untaken true = refl
    untaken false = refl

    unasked : (accepted : Bool) → is_asked (left_link accepted) ≡ false
    unasked true = refl
    unasked false = refl

-- one that is ahead by an opening has a link over which nothing was asked for just of one that waits before a transfer
opening_unready : (transfer : Transfer) (v : Far) → is_ready (far_ahead Opens (linked (Data.Opening transfer Ways.Accept) v)).session.connection ≡ false
opening_unready (Transfers.Upload path keep d) v = refl
opening_unready Transfers.OverLimit v = refl
opening_unready (Transfers.Download []) v = refl
opening_unready (Transfers.Download (octet ∷ more)) v = refl
opening_unready (Transfers.Listing []) v = refl
opening_unready (Transfers.Listing (octet ∷ more)) v = refl

pub opens_ready : (link : ServerLink Transfer) → accepts link ≡ true → (v : Far) → is_ready (far_ahead Opens (linked link v)).session.connection ≡ true
    → link ≡ Data.Passive
opens_ready Data.Passive is v ready = refl
opens_ready (Data.Opening transfer Ways.Accept) is v ready = absurd (true≢false (sym ready ∙ opening_unready transfer v))
opens_ready (Data.Opening transfer (Ways.Connect endpoint)) is v ready = absurd (true≢false (sym is))
opens_ready Data.Free is v ready = absurd (true≢false (sym is))
opens_ready (Data.Asked verb) is v ready = absurd (true≢false (sym is))
opens_ready (Data.Active endpoint) is v ready = absurd (true≢false (sym is))
opens_ready Data.Ready is v ready = absurd (true≢false (sym is))
opens_ready (Data.Transferring transfer) is v ready = absurd (true≢false (sym is))
