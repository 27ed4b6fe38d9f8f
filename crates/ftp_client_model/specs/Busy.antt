-- Which calls make a client busy: `start` and `upload` alone, also where it is short of memory. So room that was made for a report when
-- an operation began is still there when the report comes.
use Rattle.std.specs.Prelude.{◌≡◌, ℕ, Bool, true, false, List, IsTrue}
use Rattle.ftp_endpoint.specs.declared.host.Host.{Host}
use Rattle.ftp_client_model.specs.Calls.{starts, uploads, is_busy, reports, hears, gives_control, control_end, listening, listen_refused, data_opened, data_refused}
use Rattle.ftp_client_model.specs.Calls.{receives, data_end, data_fault, gives_data, data_closed}
use Rattle.ftp_client_model.specs.Failing.{short, starts_short, uploads_short, HearsShort, ReceivesShort, listening_short, listen_refused_short, data_opened_short, data_refused_short, data_end_short, data_fault_short}
use Rattle.ftp_client_model.specs.Tries.{OverBreaks}
use Rattle.ftp_client_model.specs.View.{View, Job, Idle, Told, client}
use Rattle.ftp_operation.specs.declared.op.Op.{Op}
use Rattle.ftp_client_model.specs.declared.client.ClientLink.TheVariants as Data

-- ---- a row a call

-- something holds of a client before and behind each call that begins nothing
pub record OfCalls (Holds : View → View → Type 0) (v : View) : Type 0 where
  pub reporting : Holds v (reports v)
  pub hearing : (octets : List ℕ) → Holds v (hears v octets)
  pub giving : (count : ℕ) → Holds v (gives_control count v)
  pub left : Holds v (control_end v)
  pub told_port : (port : ℕ) → Holds v (listening port v)
  pub opened : (host : Host) → Holds v (data_opened host v)
  pub receiving : (octets : List ℕ) → Holds v (receives v octets)
  pub ended : Holds v (data_end v)
  pub broken : Holds v (data_fault v)
  pub carrying : (count : ℕ) → Holds v (gives_data count v)
  pub closed : Holds v (data_closed v)

-- of the calls that tell it that no port or no link is had
pub record OfRefusals (Holds : View → View → Type 0) (v : View) : Type 0 where
  pub no_port : Holds v (listen_refused v)
  pub unopened : Holds v (data_refused v)

-- of each call in which a growth was refused
pub record OfShortCalls (Holds : View → View → Type 0) (v : View) : Type 0 where
  pub wanting : Holds v (short v)
  pub hearing : (piece : List ℕ) (count : ℕ) (new : View) → HearsShort v piece count new → Holds v new
  pub receiving : (piece : List ℕ) (count : ℕ) (new : View) → ReceivesShort v piece count new → Holds v new
  pub told_port : (port : ℕ) → Holds v (listening_short port v)
  pub no_port : Holds v (listen_refused_short v)
  pub opened : Holds v (data_opened_short v)
  pub unopened : Holds v (data_refused_short v)
  pub ended : Holds v (data_end_short v)
  pub broken : Holds v (data_fault_short v)

-- of the calls that begin something, where the client isn't busy
pub record OfBeginnings (Holds : View → View → Type 0) (v : View) : Type 0 where
  pub starting : (op : Op (List ℕ)) → Holds v (starts op v)
  pub uploading : (upload : OverBreaks) → Holds v (uploads upload v)
  pub starting_short : (op : Op (List ℕ)) → Holds v (starts_short op v)
  pub uploading_short : (upload : OverBreaks) → Holds v (uploads_short upload v)

-- ---- the laws

-- the client is busy only where it was before
abbrev pub BusyBefore : (old new : View) → Type 0
BusyBefore old new = IsTrue (is_busy new) → IsTrue (is_busy old)

-- no operation is under way: none was begun, or the answer of one is told
abbrev pub is_over : Job → Bool
is_over Idle = true
is_over (Told answer) = true
is_over other = false

-- then no port and no link of it is asked for, and none stands
abbrev pub LeavesNone : View → Type 0
LeavesNone v = is_over v.job ≡ true → v.connection ≡ Data.Free

-- no other call than `start` and `upload` makes a client busy, whatever it holds; that no port or no link is had ends an operation, and
-- so makes none where nothing is left of one that is over
pub record OnlyBegins (v : View) : Type 0 where
  pub calls : OfCalls BusyBefore v
  pub refusals : LeavesNone v → OfRefusals BusyBefore v
  pub short_calls : OfShortCalls BusyBefore v

-- of every client
abbrev pub OnlyBeginsBusy : Type 0
OnlyBeginsBusy = (v : View) → OnlyBegins v

-- behind a call nothing is left of an operation that is over
abbrev pub LeavesNoneThen : (old new : View) → Type 0
LeavesNoneThen old new = LeavesNone new

-- so is every client: at its beginning, and behind each call of one that was
pub record StaysLeft (v : View) : Type 0 where
  pub calls : OfCalls LeavesNoneThen v
  pub refusals : OfRefusals LeavesNoneThen v
  pub short_calls : OfShortCalls LeavesNoneThen v
  pub beginnings : is_busy v ≡ false → OfBeginnings LeavesNoneThen v

-- each client as it begins
abbrev pub BeginsLeft : Type 0
BeginsLeft = (user pass : List ℕ) (here peer : Host) → LeavesNone (client user pass here peer)

-- and from there on
abbrev pub EachStaysLeft : Type 0
EachStaysLeft = (v : View) → LeavesNone v → StaysLeft v
