-- What a server is that wants this or that, and what is made of its data connection.
use Rattle.std.proofs.Common.{◌≡◌, ◌⊎◌, inl, inr, ℕ, Bool, true, false, true≢false, List, [], ◌∷◌, ◌++◌, None, drop, refl, sym, ap, ◌∙◌}
use Rattle.std.specs.Prelude.{if◌then◌else◌}
use Rattle.ftp_ports.specs.Machine.{leaves, waits}
use Rattle.ftp_ends.specs.Link.{is_accepting, same_host}
use Rattle.ftp_ends.specs.Octets.{has_octets}
use Rattle.ftp_ends.specs.declared.link.Wants.{Wants}
use Rattle.ftp_ends.specs.declared.link.Wants.TheVariants as Want
use Rattle.ftp_endpoint.specs.declared.host.Host.{Host}
use Rattle.ftp_server_model.specs.Calls as far
use Rattle.ftp_server_model.specs.Calls.{connection_of, given_by, given_step, listening_step, opened_step, opens, wants_of}
use Rattle.ftp_server_model.specs.Machine.{completed, is_transferring, waited}
use Rattle.ftp_server_model.specs.View.{Transfer, View as Far}
use Rattle.ftp_server_model.specs.declared.session.PassiveVerb.TheVariants as Asking
use Rattle.ftp_server_model.specs.declared.session.ServerLink.{ServerLink}
use Rattle.ftp_server_model.specs.declared.session.ServerLink.TheVariants as Data
use Rattle.ftp_server_model.specs.declared.session.Transfer.TheVariants as Transfers
use Rattle.ftp_server_model.specs.declared.session.Way.TheVariants as Ways
use Rattle.laws_dialogues.specs.Fetches.{giving_of}
use Rattle.laws_drivers.specs.world.Ahead.{Listens, Opens, accepts, ahead_of, far_world_ahead, is_asked, is_open}
use Rattle.laws_drivers.proofs.world.Hearing.{at_link, is_dialled, is_quiet}

-- ---- what it wants

abbrev pub is_close : Wants → Bool
is_close Want.CloseData = true
is_close other = false

-- one that wants anything but a close wants no close
pub no_close : (v : Far) (q : Wants) → far.wants v ≡ q → is_close q ≡ false → v.session.closing ≡ false
no_close v q e none = by v.session.closing e
  where
    by : (closing : Bool)
        → (if closing then Want.CloseData
        else (if far.is_done v.session.life v.owed then Want.CloseAll else wants_of v.session.connection)) ≡ q → closing ≡ false
    by true e = absurd (true≢false (ap is_close e ∙ none))
    by false e = refl

-- one that waits for octets wants none
pub waiting_open : (v : Far) → waits (far.wants v) ≡ true → v.session.closing ≡ false
waiting_open v e = by v.session.closing e
  where
    by : (closing : Bool)
        → waits (if closing then Want.CloseData
        else (if far.is_done v.session.life v.owed then Want.CloseAll else wants_of v.session.connection)) ≡ true → closing ≡ false
    by true e = absurd (true≢false (sym e))
    by false e = refl

-- what is wanted of a data connection
abbrev pub is_listen : Wants → Bool
is_listen Want.Listen = true
is_listen other = false

pub asked_listens : (link : ServerLink Transfer) → is_listen (wants_of link) ≡ is_asked link
asked_listens (Data.Opening transfer Ways.Accept) = refl
asked_listens (Data.Transferring Transfers.OverLimit) = refl
asked_listens link = refl

pub accepts_accepts : (link : ServerLink Transfer) → is_accepting (wants_of link) ≡ accepts link
accepts_accepts (Data.Opening transfer Ways.Accept) = refl
accepts_accepts (Data.Transferring Transfers.OverLimit) = refl
accepts_accepts link = refl

-- one that goes on without its data connection has none open
pub leaves_open : (link : ServerLink Transfer) → leaves (wants_of link) ≡ true → is_open link ≡ false
leaves_open Data.Free e = refl
leaves_open (Data.Asked verb) e = refl
leaves_open (Data.Active endpoint) e = refl
leaves_open Data.Passive e = refl
leaves_open Data.Ready e = absurd (true≢false (sym e))
leaves_open (Data.Opening transfer way) e = refl
leaves_open (Data.Transferring (Transfers.Upload path keep d)) e = absurd (true≢false (sym e))
leaves_open (Data.Transferring Transfers.OverLimit) e = absurd (true≢false (sym e))
leaves_open (Data.Transferring (Transfers.Download rest)) e = absurd (true≢false (sym e))
leaves_open (Data.Transferring (Transfers.Listing rest)) e = absurd (true≢false (sym e))

-- none wants the end of the control connection
abbrev pub is_all : Wants → Bool
is_all Want.CloseAll = true
is_all other = false

pub never_all : (link : ServerLink Transfer) → wants_of link ≡ Want.CloseAll → ⊥
never_all link e = true≢false (sym (ap is_all e) ∙ by link)
  where
    by : (link : ServerLink Transfer) → is_all (wants_of link) ≡ false
    by (Data.Opening transfer Ways.Accept) = refl
    by (Data.Transferring Transfers.OverLimit) = refl
    by link = refl

-- one that waits asked for no port
pub waits_unasked : (link : ServerLink Transfer) → waits (wants_of link) ≡ true → is_asked link ≡ false
waits_unasked (Data.Asked verb) e = absurd (true≢false (sym e))
waits_unasked Data.Free e = refl
waits_unasked (Data.Active endpoint) e = refl
waits_unasked Data.Passive e = refl
waits_unasked Data.Ready e = refl
waits_unasked (Data.Opening transfer way) e = refl
waits_unasked (Data.Transferring transfer) e = refl

-- a port is asked for, or it waits for who comes, or neither
pub asked_apart : (link : ServerLink Transfer) → is_asked link ≡ true → accepts link ≡ false
asked_apart (Data.Asked verb) e = refl
asked_apart Data.Free e = absurd (true≢false (sym e))
asked_apart (Data.Active endpoint) e = absurd (true≢false (sym e))
asked_apart Data.Passive e = absurd (true≢false (sym e))
asked_apart Data.Ready e = absurd (true≢false (sym e))
asked_apart (Data.Opening transfer way) e = absurd (true≢false (sym e))
asked_apart (Data.Transferring transfer) e = absurd (true≢false (sym e))

-- one at which no transfer is under way and no port was asked for stands aside
pub quiet_of : (link : ServerLink Transfer) → is_asked link ≡ false → is_transferring link ≡ false → is_quiet link ≡ true
quiet_of Data.Free a t = refl
quiet_of (Data.Asked verb) a t = absurd (true≢false a)
quiet_of (Data.Active endpoint) a t = refl
quiet_of Data.Passive a t = refl
quiet_of Data.Ready a t = refl
quiet_of (Data.Opening transfer way) a t = absurd (true≢false t)
quiet_of (Data.Transferring transfer) a t = absurd (true≢false t)

-- one that is not open has nothing to give
pub given_none : (link : ServerLink Transfer) → is_open link ≡ false → given_by link ≡ []
given_none Data.Free e = refl
given_none (Data.Asked verb) e = refl
given_none (Data.Active endpoint) e = refl
given_none Data.Passive e = refl
given_none Data.Ready e = absurd (true≢false e)
given_none (Data.Opening transfer way) e = refl
given_none (Data.Transferring transfer) e = absurd (true≢false e)

-- one that sends gives octets of a file or a listing
pub record Sending (link : ServerLink Transfer) : Type 0 where
  pub listed : Bool
  pub all : List ℕ
  pub is : link ≡ Data.Transferring (giving_of listed all)

abbrev pub is_send : Wants → Bool
is_send Want.Send = true
is_send other = false

pub sending_of : (link : ServerLink Transfer) → is_send (wants_of link) ≡ true → Sending link
sending_of Data.Free e = absurd (true≢false (sym e))
sending_of (Data.Asked verb) e = absurd (true≢false (sym e))
sending_of (Data.Active endpoint) e = absurd (true≢false (sym e))
sending_of Data.Passive e = absurd (true≢false (sym e))
sending_of Data.Ready e = absurd (true≢false (sym e))
sending_of (Data.Opening transfer Ways.Accept) e = absurd (true≢false (sym e))
sending_of (Data.Opening transfer (Ways.Connect endpoint)) e = absurd (true≢false (sym e))
sending_of (Data.Transferring (Transfers.Upload path keep d)) e = absurd (true≢false (sym e))
sending_of (Data.Transferring Transfers.OverLimit) e = absurd (true≢false (sym e))
sending_of (Data.Transferring (Transfers.Download rest)) e = record { listed = false; all = rest; is = refl }
sending_of (Data.Transferring (Transfers.Listing rest)) e = record { listed = true; all = rest; is = refl }

-- ---- how a world's server is ahead

-- what it does later changes nothing where it waits for nobody, has nothing open and dials nobody
pub same_opens : (link : ServerLink Transfer) → accepts link ≡ false → is_open link ≡ false → is_dialled link ≡ false → (closing : Bool) (v : Far)
    → ahead_of Opens (at_link link closing v) ≡ at_link link closing v
same_opens Data.Free a o d true v = refl
same_opens Data.Free a o d false v = refl
same_opens (Data.Asked verb) a o d true v = refl
same_opens (Data.Asked verb) a o d false v = refl
same_opens (Data.Active endpoint) a o d true v = refl
same_opens (Data.Active endpoint) a o d false v = refl
same_opens Data.Passive a o d closing v = absurd (true≢false a)
same_opens Data.Ready a o d closing v = absurd (true≢false o)
same_opens (Data.Opening transfer Ways.Accept) a o d closing v = absurd (true≢false a)
same_opens (Data.Opening transfer (Ways.Connect endpoint)) a o d closing v = absurd (true≢false d)
same_opens (Data.Transferring transfer) a o d closing v = absurd (true≢false o)

-- octets after which there are some are some
pub some_last : (front rest : List ℕ) → has_octets rest ≡ true → has_octets (front ++ rest) ≡ true
some_last [] rest e = e
some_last (octet ∷ front) rest e = refl

-- the first of them
pub first_of_some : (octets : List ℕ) → has_octets octets ≡ true → (octet : ℕ) × (more : List ℕ) × (octets ≡ octet ∷ more)
first_of_some [] e = absurd (true≢false (sym e))
first_of_some (octet ∷ more) e = (octet, more, refl)

-- of one whose transfer waits for who comes a world's is at the transfer, or says that it is over
pub called_speaks : (transfer : Transfer) (v : Far)
    → let u : Far = far_world_ahead Opens (at_link (Data.Opening transfer Ways.Accept) false v) in
    (is_transferring u.session.connection ≡ true) ⊎ (has_octets u.owed ≡ true)
called_speaks (Transfers.Upload path keep d) v = inl refl
called_speaks Transfers.OverLimit v = inl refl
called_speaks (Transfers.Download []) v = inr (some_last v.owed _ refl)
called_speaks (Transfers.Download (octet ∷ more)) v = inl refl
called_speaks (Transfers.Listing []) v = inr (some_last v.owed _ refl)
called_speaks (Transfers.Listing (octet ∷ more)) v = inl refl

-- of one that was told a port
pub told_passive : (link : ServerLink Transfer) → is_asked link ≡ true → (port : ℕ) (v : Far)
    → (listening_step port (at_link link false v)).session.connection ≡ Data.Passive
told_passive (Data.Asked Asking.Pasv) e port v = refl
told_passive (Data.Asked Asking.Epsv) e port v = refl
told_passive Data.Free e port v = absurd (true≢false (sym e))
told_passive (Data.Active endpoint) e port v = absurd (true≢false (sym e))
told_passive Data.Passive e port v = absurd (true≢false (sym e))
told_passive Data.Ready e port v = absurd (true≢false (sym e))
told_passive (Data.Opening transfer way) e port v = absurd (true≢false (sym e))
told_passive (Data.Transferring transfer) e port v = absurd (true≢false (sym e))

-- and it says so
pub told_speaks : (link : ServerLink Transfer) → is_asked link ≡ true → (port : ℕ) (closing : Bool) (v : Far)
    → has_octets (far_world_ahead (Listens port) (at_link link closing v)).owed ≡ true
told_speaks (Data.Asked Asking.Pasv) e port closing v = some_last v.owed _ refl
told_speaks (Data.Asked Asking.Epsv) e port closing v = some_last v.owed _ refl
told_speaks Data.Free e port closing v = absurd (true≢false (sym e))
told_speaks (Data.Active endpoint) e port closing v = absurd (true≢false (sym e))
told_speaks Data.Passive e port closing v = absurd (true≢false (sym e))
told_speaks Data.Ready e port closing v = absurd (true≢false (sym e))
told_speaks (Data.Opening transfer way) e port closing v = absurd (true≢false (sym e))
told_speaks (Data.Transferring transfer) e port closing v = absurd (true≢false (sym e))

-- who is accepted is accepted as a world does
pub opened_is : (host : Host) (v : Far) → same_host host v.context.peer ≡ true → opened_step host v ≡ ahead_of Opens v
opened_is host v same = ap (λ b. completed (opens (connection_of v.session) b v)) same

-- then it is open only where no close is wanted
pub opened_shut : (link : ServerLink Transfer) → accepts link ≡ true → (v : Far) → let u : Far = ahead_of Opens (at_link link false v) in
    u.session.closing ≡ true → is_open u.session.connection ≡ false
opened_shut Data.Passive is v e = absurd (true≢false (sym e))
opened_shut (Data.Opening (Transfers.Upload path keep d) Ways.Accept) is v e = absurd (true≢false (sym e))
opened_shut (Data.Opening Transfers.OverLimit Ways.Accept) is v e = absurd (true≢false (sym e))
opened_shut (Data.Opening (Transfers.Download []) Ways.Accept) is v e = refl
opened_shut (Data.Opening (Transfers.Download (octet ∷ more)) Ways.Accept) is v e = absurd (true≢false (sym e))
opened_shut (Data.Opening (Transfers.Listing []) Ways.Accept) is v e = refl
opened_shut (Data.Opening (Transfers.Listing (octet ∷ more)) Ways.Accept) is v e = absurd (true≢false (sym e))
opened_shut (Data.Opening transfer (Ways.Connect endpoint)) is v e = absurd (true≢false (sym is))
opened_shut Data.Free is v e = absurd (true≢false (sym is))
opened_shut (Data.Asked verb) is v e = absurd (true≢false (sym is))
opened_shut (Data.Active endpoint) is v e = absurd (true≢false (sym is))
opened_shut Data.Ready is v e = absurd (true≢false (sym is))
opened_shut (Data.Transferring transfer) is v e = absurd (true≢false (sym is))

-- ---- octets that are given

-- a server that gives these octets still, of a listing or of a file
abbrev pub giving : Bool → List ℕ → Far → Far
giving listed octets v = at_link (Data.Transferring (giving_of listed octets)) false v

-- so many are given
pub given_is : (listed : Bool) (count : ℕ) (all : List ℕ) (v : Far) → given_step count (giving listed all v) ≡ completed (giving listed (drop count all) v)
given_is true count all v = refl
given_is false count all v = refl

-- these are still to be given
pub given_all : (listed : Bool) (all : List ℕ) (v : Far) → far.to_give (giving listed all v) ≡ all
given_all true all v = refl
given_all false all v = refl

-- while there are some it gives on
pub gives_on : (listed : Bool) (octet : ℕ) (more : List ℕ) (v : Far) → completed (giving listed (octet ∷ more) v) ≡ giving listed (octet ∷ more) v
gives_on true octet more v = refl
gives_on false octet more v = refl

-- what the last of them leaves is open only where no close is wanted
pub given_shut : (listed : Bool) (rest : List ℕ) (v : Far) → let u : Far = completed (giving listed rest v) in
    u.session.closing ≡ true → is_open u.session.connection ≡ false
given_shut true [] v e = refl
given_shut false [] v e = refl
given_shut true (octet ∷ more) v e = absurd (true≢false (sym e))
given_shut false (octet ∷ more) v e = absurd (true≢false (sym e))

-- the octets aside all stays: it runs, and no line waits; no port is asked for
pub record GivenKeeps (u v : Far) : Type 0 where
  pub life : u.session.life ≡ v.session.life
  pub waiting : u.waiting ≡ v.waiting
  pub unasked : is_asked u.session.connection ≡ false

pub given_keeps : (listed : Bool) (rest : List ℕ) (v : Far) → GivenKeeps (completed (giving listed rest v)) v
given_keeps true [] v = record { life = refl; waiting = refl; unasked = refl }
given_keeps false [] v = record { life = refl; waiting = refl; unasked = refl }
given_keeps true (octet ∷ more) v = record { life = refl; waiting = refl; unasked = refl }
given_keeps false (octet ∷ more) v = record { life = refl; waiting = refl; unasked = refl }

-- ---- a call behind which no line waits

pub none_later : (v : Far) → v.waiting ≡ None → waited v.waiting v ≡ v
none_later v none = ap (λ q. waited q v) none
