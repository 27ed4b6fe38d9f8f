-- Room for the replies that come by themselves: while a transfer is under way or a port is asked for, less is owed (own choice).
use Rattle.std.specs.Prelude.{◌≡◌, ℕ, ◌+◌, ◌≤◌, Bool, true, false, List, length, Option, Some, None}
use Rattle.ftp_command.specs.Line.{line_limit}
use Rattle.ftp_path.specs.Login.{login_limit}
use Rattle.ftp_server_session.specs.Line.{HeardPaths}
pub use Rattle.ftp_server_session.specs.Little.{heard_name_len, is_busy, is_short_reply, name_len}
use Rattle.ftp_server_model.specs.Held.{waiting_len}
use Rattle.ftp_server_model.specs.declared.heard.HeardLine.{HeardLine}
use Rattle.ftp_server_model.specs.declared.session.ServerLink.{ServerLink}
use Rattle.ftp_server_model.specs.declared.session.ServerLink.TheVariants as Data

-- a transfer was begun, and its data connection is not open yet
abbrev pub is_opening : {J : Type 0} → ServerLink J → Bool
is_opening Data.Free = false
is_opening (Data.Asked asked) = false
is_opening (Data.Active endpoint) = false
is_opening Data.Passive = false
is_opening Data.Ready = false
is_opening (Data.Opening transfer way) = true
is_opening (Data.Transferring transfer) = false

-- the most octets that are owed meanwhile: the 4,096 with which an octet is taken, and what comes of it
abbrev pub busy_room : ℕ
busy_room = 4672

-- so 3,520 are free for the reply by which it ends
abbrev pub HasRoom : {J : Type 0} → ServerLink J → List ℕ → Type 0
HasRoom connection owed = is_busy connection ≡ true → length owed ≤ busy_room

-- the most octets of a line that waits, as it would be written: twice those of one that is heard, since a number of a line may be
-- written with more octets than it came with
abbrev pub waiting_limit : ℕ
waiting_limit = line_limit + line_limit

-- the texts of paths in the line that waits are path texts, it keeps the limit, and so does the name that it says
abbrev pub MayWait : Option (HeardLine (List ℕ)) → Type 0
MayWait None = Unit {0}
MayWait (Some heard) = HeardPaths heard × (waiting_len (Some heard) ≤ waiting_limit) × (heard_name_len heard ≤ login_limit)
