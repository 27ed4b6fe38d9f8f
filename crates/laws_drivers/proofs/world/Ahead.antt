-- A world's server that is ahead of a drive's: how it moves with that.
use Rattle.std.proofs.Common.{◌≡◌, ℕ, true, false, true≢false, List, [], ◌∷◌, ◌++◌, refl, sym, ap, ◌∙◌, append_assoc}
use Rattle.ftp_ends.specs.Link.{same_host}
use Rattle.ftp_endpoint.specs.declared.host.Host.{Host}
use Rattle.ftp_server_model.specs.Calls.{clock_step, close_step, connection_of, listening_step, opened_step, opens}
use Rattle.ftp_server_model.specs.Machine.{completed}
use Rattle.ftp_server_model.specs.View.{Transfer, View as Far}
use Rattle.ftp_server_model.specs.declared.session.PassiveVerb.TheVariants as Asking
use Rattle.ftp_server_model.specs.declared.session.ServerLink.{ServerLink}
use Rattle.ftp_server_model.specs.declared.session.ServerLink.TheVariants as Data
use Rattle.ftp_server_model.specs.declared.session.Transfer.TheVariants as Transfers
use Rattle.ftp_server_model.specs.declared.session.Way.TheVariants as Ways
use Rattle.laws_drivers.specs.world.Ahead.{WorldAhead, Fits, Level, Listens, Opens, accepts, ahead_of, far_world_ahead, is_asked}

-- a server with this data connection, with this and with that to say
abbrev linked : ServerLink Transfer → Far → Far
linked link v = record v { session = record v.session { connection = link } }

abbrev owing : List ℕ → Far → Far
owing octets v = record v { owed = octets }

-- ---- what it says comes after what the drive's is still to say

-- so it does, whatever octets come first
abbrev SaysAfter : WorldAhead → Far → Type 0
SaysAfter ahead v = (octets rest : List ℕ)
    → far_world_ahead ahead (owing (octets ++ rest) v) ≡ owing (octets ++ (far_world_ahead ahead (owing rest v)).owed) (far_world_ahead ahead (owing rest v))

-- the last octets are these
said_last : (more : List ℕ) (v : Far) (octets rest : List ℕ) → owing ((octets ++ rest) ++ more) v ≡ owing (octets ++ (rest ++ more)) v
said_last more v octets rest = ap (λ o. owing o v) (append_assoc octets rest more)

opening_after : (transfer : Transfer) (v : Far) → SaysAfter Opens (linked (Data.Opening transfer Ways.Accept) v)
opening_after (Transfers.Upload path keep d) v octets rest = refl
opening_after Transfers.OverLimit v octets rest = refl
opening_after (Transfers.Download []) v octets rest =
    said_last _ (far_world_ahead Opens (linked (Data.Opening (Transfers.Download []) Ways.Accept) v)) octets rest
opening_after (Transfers.Download (octet ∷ more)) v octets rest = refl
opening_after (Transfers.Listing []) v octets rest =
    said_last _ (far_world_ahead Opens (linked (Data.Opening (Transfers.Listing []) Ways.Accept) v)) octets rest
opening_after (Transfers.Listing (octet ∷ more)) v octets rest = refl

opens_after : (link : ServerLink Transfer) → accepts link ≡ true → (v : Far) → SaysAfter Opens (linked link v)
opens_after Data.Passive is v octets rest = refl
opens_after (Data.Opening transfer Ways.Accept) is v octets rest = opening_after transfer v octets rest
opens_after (Data.Opening transfer (Ways.Connect endpoint)) is v octets rest = absurd (true≢false (sym is))
opens_after Data.Free is v octets rest = absurd (true≢false (sym is))
opens_after (Data.Asked verb) is v octets rest = absurd (true≢false (sym is))
opens_after (Data.Active endpoint) is v octets rest = absurd (true≢false (sym is))
opens_after Data.Ready is v octets rest = absurd (true≢false (sym is))
opens_after (Data.Transferring transfer) is v octets rest = absurd (true≢false (sym is))

told_after : (port : ℕ) (link : ServerLink Transfer) → is_asked link ≡ true → (v : Far) → SaysAfter (Listens port) (linked link v)
told_after port (Data.Asked Asking.Pasv) is v octets rest =
    said_last _ (far_world_ahead (Listens port) (linked (Data.Asked Asking.Pasv) v)) octets rest
told_after port (Data.Asked Asking.Epsv) is v octets rest =
    said_last _ (far_world_ahead (Listens port) (linked (Data.Asked Asking.Epsv) v)) octets rest
told_after port Data.Free is v octets rest = absurd (true≢false (sym is))
told_after port (Data.Active endpoint) is v octets rest = absurd (true≢false (sym is))
told_after port Data.Passive is v octets rest = absurd (true≢false (sym is))
told_after port Data.Ready is v octets rest = absurd (true≢false (sym is))
told_after port (Data.Opening transfer way) is v octets rest = absurd (true≢false (sym is))
told_after port (Data.Transferring transfer) is v octets rest = absurd (true≢false (sym is))

pub says_after : (ahead : WorldAhead) (v : Far) → Fits ahead v.session.connection → SaysAfter ahead v
says_after Level v fits octets rest = refl
says_after Opens v fits octets rest = opens_after v.session.connection fits v octets rest
says_after (Listens port) v fits octets rest = told_after port v.session.connection fits v octets rest

-- ---- what stays

-- all that no data connection has to do with
pub record Keeps (ahead : WorldAhead) (v : Far) : Type 0 where
  pub table : (far_world_ahead ahead v).session.table ≡ v.session.table
  pub life : (far_world_ahead ahead v).session.life ≡ v.session.life
  pub waiting : (far_world_ahead ahead v).waiting ≡ v.waiting
  pub clock : (moment : ℕ) → far_world_ahead ahead (clock_step moment v) ≡ clock_step moment (far_world_ahead ahead v)
  pub peer : (far_world_ahead ahead v).context.peer ≡ v.context.peer
  pub told : is_asked (far_world_ahead ahead v).session.connection ≡ false

opening_keeps : (transfer : Transfer) (v : Far) → Keeps Opens (linked (Data.Opening transfer Ways.Accept) v)
opening_keeps (Transfers.Upload path keep d) v = record { table = refl; life = refl; waiting = refl; clock = λ moment. refl; peer = refl; told = refl }
opening_keeps Transfers.OverLimit v = record { table = refl; life = refl; waiting = refl; clock = λ moment. refl; peer = refl; told = refl }
opening_keeps (Transfers.Download []) v = record { table = refl; life = refl; waiting = refl; clock = λ moment. refl; peer = refl; told = refl }
opening_keeps (Transfers.Download (octet ∷ more)) v = record { table = refl; life = refl; waiting = refl; clock = λ moment. refl; peer = refl; told = refl }
opening_keeps (Transfers.Listing []) v = record { table = refl; life = refl; waiting = refl; clock = λ moment. refl; peer = refl; told = refl }
opening_keeps (Transfers.Listing (octet ∷ more)) v = record { table = refl; life = refl; waiting = refl; clock = λ moment. refl; peer = refl; told = refl }

opens_keeps : (link : ServerLink Transfer) → accepts link ≡ true → (v : Far) → Keeps Opens (linked link v)
opens_keeps Data.Passive is v = record { table = refl; life = refl; waiting = refl; clock = λ moment. refl; peer = refl; told = refl }
opens_keeps (Data.Opening transfer Ways.Accept) is v = opening_keeps transfer v
opens_keeps (Data.Opening transfer (Ways.Connect endpoint)) is v = absurd (true≢false (sym is))
opens_keeps Data.Free is v = absurd (true≢false (sym is))
opens_keeps (Data.Asked verb) is v = absurd (true≢false (sym is))
opens_keeps (Data.Active endpoint) is v = absurd (true≢false (sym is))
opens_keeps Data.Ready is v = absurd (true≢false (sym is))
opens_keeps (Data.Transferring transfer) is v = absurd (true≢false (sym is))

told_keeps : (port : ℕ) (link : ServerLink Transfer) → is_asked link ≡ true → (v : Far) → Keeps (Listens port) (linked link v)
told_keeps port (Data.Asked Asking.Pasv) is v = record { table = refl; life = refl; waiting = refl; clock = λ moment. refl; peer = refl; told = refl }
told_keeps port (Data.Asked Asking.Epsv) is v = record { table = refl; life = refl; waiting = refl; clock = λ moment. refl; peer = refl; told = refl }
told_keeps port Data.Free is v = absurd (true≢false (sym is))
told_keeps port (Data.Active endpoint) is v = absurd (true≢false (sym is))
told_keeps port Data.Passive is v = absurd (true≢false (sym is))
told_keeps port Data.Ready is v = absurd (true≢false (sym is))
told_keeps port (Data.Opening transfer way) is v = absurd (true≢false (sym is))
told_keeps port (Data.Transferring transfer) is v = absurd (true≢false (sym is))

pub keeps : (ahead : WorldAhead) (v : Far) → Fits ahead v.session.connection → Keeps ahead v
keeps Level v fits = record { table = refl; life = refl; waiting = refl; clock = λ moment. refl; peer = refl; told = fits }
keeps Opens v fits = opens_keeps v.session.connection fits v
keeps (Listens port) v fits = told_keeps port v.session.connection fits v

-- ---- the drive's comes there too

-- one that wants no close is as it is once that is done
pub closed_is : (v : Far) → v.session.closing ≡ false → close_step v ≡ v
closed_is v unclosed = ap (λ c. record v { session = record v.session { closing = c } }) (sym unclosed)

-- ahead of one that wants no close
pub far_is : (ahead : WorldAhead) (v : Far) → v.session.closing ≡ false → far_world_ahead ahead v ≡ close_step (ahead_of ahead v)
far_is ahead v unclosed = ap (λ u. close_step (ahead_of ahead u)) (closed_is v unclosed)

-- who came is accepted
pub opened_level : (host : Host) (v : Far) → accepts v.session.connection ≡ true → v.session.closing ≡ false → same_host host v.context.peer ≡ true
    → far_world_ahead Level (opened_step host v) ≡ far_world_ahead Opens v
opened_level host v is unclosed same =
    ap (λ b. close_step (completed (opens (connection_of v.session) b v))) same ∙ sym (far_is Opens v unclosed)

-- a port is told
pub listened_level : (port : ℕ) (v : Far) → v.session.closing ≡ false → far_world_ahead Level (listening_step port v) ≡ far_world_ahead (Listens port) v
listened_level port v unclosed = sym (far_is (Listens port) v unclosed)
