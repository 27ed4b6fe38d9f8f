-- How many octets a server holds, beside the map, the accounts, what came of an upload, and what a transfer shares with the tree (own choice
-- of the limits): the sum of the lengths of all else that it stores.
use Rattle.std.specs.Prelude.{ℕ, ◌+◌, ◌<◌, ◌≤◌, List, [], ◌∷◌, length, Option, Some}
use Rattle.ftp_endpoint.specs.Written.{IsTypedHost}
use Rattle.ftp_endpoint.specs.declared.host.Host.{Host}
use Rattle.ftp_command.specs.Line.{line_of}
use Rattle.ftp_path.specs.Path.{Names, text_limit, text_of}
use Rattle.ftp_tree.specs.Tree.{Table, most_octets, octets_or_none}
use Rattle.ftp_wire.specs.Stored.{encoder_limit}
use Rattle.ftp_ends.specs.Limits.{held_limit}
use Rattle.ftp_server_model.specs.View.{Accounts, Session, Transfer, View, line_limit}
use Rattle.ftp_server_model.specs.Calls.{start}
use Rattle.ftp_server_model.specs.Machine.{Reading, IsReading}
use Rattle.ftp_server_model.specs.Play.{Cue, Listening, left_by}
use Rattle.ftp_server_model.specs.Kept.{ServerKeeps}
use Rattle.ftp_server_model.specs.Told.{AreWithinLimits}
use Rattle.ftp_server_model.specs.declared.heard.HeardLine.{HeardLine}
use Rattle.ftp_server_model.specs.declared.heard.HeardLine.TheVariants.{Asks}
use Rattle.ftp_server_model.specs.declared.session.Access.{Access}
use Rattle.ftp_server_model.specs.declared.session.Access.TheVariants.{Nobody, AwaitsPass, Known}
use Rattle.ftp_server_model.specs.declared.session.Pending.{Pending}
use Rattle.ftp_server_model.specs.declared.session.Pending.TheVariants as Pendings
use Rattle.ftp_server_model.specs.declared.session.ServerLink.{ServerLink}
use Rattle.ftp_server_model.specs.declared.session.ServerLink.TheVariants as Data

-- ---- what a transfer stores

-- the most octets of lines that a listing makes at once: up to 511, and then a line of NLST, which is the argument, `/`, a name and its end
abbrev pub lines_limit : ℕ
lines_limit = 511 + (text_limit + 257)

-- the most octets that a transfer stores: a block as it is filled and written, the path, the argument of NLST, the lines that are given, and
-- those after them, which are made in advance so that refused memory leaves something to give
abbrev pub stored_limit : ℕ
stored_limit = encoder_limit + (text_limit + (text_limit + (lines_limit + lines_limit)))

-- what is stored of a transfer that waits for its data connection, or has it; nothing where none stands
abbrev pub connection_len : {J : Type 0} → (J → ℕ) → ServerLink J → ℕ
connection_len stored (Data.Opening transfer way) = stored transfer
connection_len stored (Data.Transferring transfer) = stored transfer
connection_len stored Data.Free = 0
connection_len stored (Data.Active endpoint) = 0
connection_len stored (Data.Asked asked) = 0
connection_len stored Data.Passive = 0
connection_len stored Data.Ready = 0

-- ---- what each part holds

-- a path, by its text
abbrev pub path_len : Names → ℕ
path_len path = length (text_of path)

-- the name of a USER that waits for its PASS
abbrev pub access_len : Access (List ℕ) → ℕ
access_len Nobody = 0
access_len (AwaitsPass name) = length name
access_len Known = 0

-- the path of an RNFR
abbrev pub pending_len : Pending Names → ℕ
pending_len Pendings.Nothing = 0
pending_len (Pendings.Rename from) = path_len from
pending_len (Pendings.Restart offset) = 0

-- a line that waits
abbrev pub waiting_len : Option (HeardLine (List ℕ)) → ℕ
waiting_len (Some (Asks command)) = length (line_of command)
waiting_len other = 0

-- ---- all of it

-- a session, where so many octets are stored of its transfer
abbrev pub session_len : ℕ → Session → ℕ
session_len stored s = access_len s.access + (path_len s.root + (path_len s.cwd + (pending_len s.pending + stored)))

-- a server: its control output, the line that is being read, the line that waits, and the session
abbrev pub held : ℕ → View → ℕ
held stored v = length v.owed + (length v.ear.line.text + (waiting_len v.waiting + session_len stored v.session))

-- so many octets may be stored of a transfer
abbrev pub MayStore : ℕ → ServerLink Transfer → Type 0
MayStore stored connection = stored ≤ connection_len (λ transfer. stored_limit) connection

-- a server that keeps its limits holds no more than it may, where the line that is being read keeps its limit, and the one that waits,
-- as it would be written, is at most twice as long
abbrev pub KeepsLittle : Type 0
KeepsLittle =
    (stored : ℕ) (v : View) → MayStore stored v.session.connection → ServerKeeps v
    → length v.ear.line.text ≤ line_limit → waiting_len v.waiting ≤ line_limit + line_limit → held stored v ≤ held_limit

-- no file has more octets than a limit may let it have, so that the octets of an upload behind it can be told
abbrev pub HasShortFiles : Table → Type 0
HasShortFiles table = (path : Names) → length (octets_or_none table path) ≤ most_octets

-- a port has 16 bits
abbrev pub IsTypedCue : Cue → Type 0
IsTypedCue (Listening port) = port < 65536
IsTypedCue cue = Unit {0}

-- so has that of each of these calls
abbrev pub AreTypedCues : List Cue → Type 0
AreTypedCues [] = Unit {0}
AreTypedCues (cue ∷ cues) = IsTypedCue cue × AreTypedCues cues

-- whatever is called, a server never holds more
abbrev pub HoldsLittle : Type 0
HoldsLittle =
    (read : Reading) (table : Table) (accounts : Accounts) (here peer : Host) (cues : List Cue) (stored : ℕ)
    → IsReading read → AreWithinLimits accounts → IsTypedHost here → HasShortFiles table → AreTypedCues cues
    → let v = left_by read cues (start table accounts here peer) in MayStore stored v.session.connection → held stored v ≤ held_limit
