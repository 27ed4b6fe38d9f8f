-- What every call of a server keeps, so that whatever comes of an octet has room (own choice of the limits).
use Rattle.std.specs.Prelude.{◌≡◌, ℕ, ◌+◌, ◌-◌, ◌^◌, ◌<◌, ◌≤◌, true, List, length, Option, Some, None, if◌then◌else◌}
use Rattle.ftp_endpoint.specs.Written.{IsTypedHost}
use Rattle.ftp_endpoint.specs.declared.host.Host.{Host}
use Rattle.ftp_tree.specs.Tree.{Table}
use Rattle.ftp_server_model.specs.Calls.{start, clocked, gives_control, control_end, listening, listen_refused, data_opened, data_refused, gives_data, data_end, data_fault, data_closed, receives_octet, may_receive}
use Rattle.ftp_server_model.specs.Machine.{Reading, IsReading, is_connection_busy, hears_octet, may_hear}
use Rattle.ftp_server_model.specs.Told.{AreWithinLimits, CanBeHeard, Keeps}
use Rattle.ftp_server_model.specs.View.{Accounts, Transfer, View}
use Rattle.ftp_server_model.specs.Keep.{kept_count}
use Rattle.ftp_server_model.specs.declared.heard.HeardLine.{HeardLine}
use Rattle.ftp_server_model.specs.declared.room.TheConstants.{FREE_ROOM, OUTPUT_ROOM}
use Rattle.ftp_server_model.specs.declared.session.ServerLink.{ServerLink}
use Rattle.ftp_server_model.specs.declared.session.ServerLink.TheVariants as Data
use Rattle.ftp_server_model.specs.declared.session.Transfer.TheVariants as Transfers

-- the most control octets that are owed: while a transfer stands or a port is asked for, its last reply is still to come, and what is
-- owed until then is answers to Telnet octets and to markers, each taken only while there is room
abbrev pub owed_limit : ServerLink Transfer → ℕ
owed_limit connection = if is_connection_busy connection then OUTPUT_ROOM - FREE_ROOM + 1024 else OUTPUT_ROOM

-- a line that waits
abbrev pub WaitingKeeps : Option (HeardLine (List ℕ)) → Type 0
WaitingKeeps None = Unit {0}
WaitingKeeps (Some heard) = CanBeHeard heard

-- a server that keeps its limits
pub record ServerKeeps (v : View) : Type 0 where
  pub accounts : AreWithinLimits v.context.accounts
  pub host : IsTypedHost v.context.here
  pub session : Keeps v.session
  pub waiting : WaitingKeeps v.waiting
  pub owed : length v.owed ≤ owed_limit v.session.connection

-- it does at the start
abbrev pub StartKeeps : Type 0
StartKeeps =
    (table : Table) (accounts : Accounts) (here peer : Host) → AreWithinLimits accounts → IsTypedHost here → ServerKeeps (start table accounts here peer)

-- and after each call
pub record CallsKeep (v : View) : Type 0 where
  pub clock : (moment : ℕ) → ServerKeeps (clocked moment v)
  pub hear : (read : Reading) (octet : ℕ) → IsReading read → may_hear v ≡ true → ServerKeeps (hears_octet read v octet)
  pub control : (count : ℕ) → ServerKeeps (gives_control count v)
  pub control_ended : ServerKeeps (control_end v)
  pub listened : (port : ℕ) → port < 65536 → ServerKeeps (listening port v)
  pub no_port : ServerKeeps (listen_refused v)
  pub opened : (host : Host) → ServerKeeps (data_opened host v)
  pub refused : ServerKeeps (data_refused v)
  pub given : (count : ℕ) → ServerKeeps (gives_data count v)
  pub ended : ServerKeeps (data_end v)
  pub broke : ServerKeeps (data_fault v)
  pub closed : ServerKeeps (data_closed v)

-- after each call but that of an octet of an upload
abbrev pub EachCallKeeps : Type 0
EachCallKeeps = (v : View) → ServerKeeps v → CallsKeep v

-- the octets that an upload holds can be told in 18 digits, as a marker asks for
abbrev pub CanTell : ServerLink Transfer → Type 0
CanTell (Data.Transferring (Transfers.Upload path keep d)) = kept_count keep + length d.content < 10 ^ 18
CanTell connection = Unit {0}

-- and after such an octet
abbrev pub UploadOctetKeeps : Type 0
UploadOctetKeeps = (v : View) (octet : ℕ) → ServerKeeps v → may_receive v ≡ true → CanTell v.session.connection → ServerKeeps (receives_octet v octet)
