-- What lines, sessions and replies keep within limits: paths, names and numbers. So each reply can be written, and a server holds little
-- (own choice of the limits).
use Rattle.std.specs.Prelude.{◌≡◌, ◌⊎◌, ℕ, ◌&&◌, Bool, true, false, List, IsTrue}
use Rattle.std.specs.List.{list_all}
use Rattle.ftp_command.specs.Argument.{IsName, IsPassword}
use Rattle.ftp_command.specs.Command.{value_of}
use Rattle.ftp_command.specs.Line.{IfGiven, IsShort}
use Rattle.ftp_command.specs.declared.command.Command.{Command}
use Rattle.ftp_command.specs.declared.value.Value.{Value}
use Rattle.ftp_command.specs.declared.value.Value.TheVariants as value
use Rattle.ftp_path.specs.Path.{IsPathText, Names, fits, is_name, parent, resolved, text_of as path_text}
use Rattle.ftp_server_model.specs.Act.{decided}
use Rattle.ftp_server_model.specs.Machine.{IsLineRead, is_connection_busy}
use Rattle.ftp_server_model.specs.Replies.{Turn, IsTold}
use Rattle.ftp_server_model.specs.View.{Accounts, Context, Session, Transfer}
use Rattle.ftp_server_model.specs.declared.heard.HeardLine.{HeardLine}
use Rattle.ftp_server_model.specs.declared.heard.HeardLine.TheVariants.{TooLong, Bad, Asks}
use Rattle.ftp_server_model.specs.declared.reply.ReplyKind.{ReplyKind}
use Rattle.ftp_server_model.specs.declared.reply.ReplyKind.TheVariants as Replies
use Rattle.ftp_server_model.specs.declared.session.Access.{Access}
use Rattle.ftp_server_model.specs.declared.session.Access.TheVariants.{Nobody, AwaitsPass, Known}
use Rattle.ftp_server_model.specs.declared.session.Pending.{Pending}
use Rattle.ftp_server_model.specs.declared.session.Pending.TheVariants as Pendings
use Rattle.ftp_server_model.specs.declared.session.ServerLink.{ServerLink}
use Rattle.ftp_server_model.specs.declared.session.ServerLink.TheVariants as Data
use Rattle.ftp_server_model.specs.declared.session.Transfer.TheVariants as Transfers

-- ---- paths

-- a path of names, within the limits of paths
abbrev pub is_path : Names → Bool
is_path path = list_all is_name path && fits path

-- its canonical text is a path text
abbrev pub PathHasText : Type 0
PathHasText = (path : Names) → IsTrue (is_path path) → IsPathText (path_text path)

-- where a path text leads from there is such a path again, unless it passes the limits
abbrev pub PathLeadsToPath : Type 0
PathLeadsToPath = (here : Names) (text : List ℕ) → IsTrue (is_path here) → IsPathText text → IsTrue (fits (resolved here text)) → IsTrue (is_path (resolved here text))

-- so is its parent
abbrev pub ParentIsPath : Type 0
ParentIsPath = (path : Names) → IsTrue (is_path path) → IsTrue (is_path (parent path))

-- ---- lines

-- what the value of a command keeps that a line says: paths are path texts, names and numbers are within their limits
abbrev pub ValueCanBeSaid : Value (List ℕ) → Type 0
ValueCanBeSaid (value.Name name) = IsName name
ValueCanBeSaid (value.Password word) = IsPassword word
ValueCanBeSaid (value.Path text) = IsPathText text
ValueCanBeSaid (value.PathOrNone text) = IfGiven IsPathText text
ValueCanBeSaid (value.Listed text) = IfGiven IsPathText text
ValueCanBeSaid (value.Number number) = IsShort number
ValueCanBeSaid other = Unit {0}

-- of a command
abbrev pub CanBeSaid : Command (List ℕ) → Type 0
CanBeSaid command = ValueCanBeSaid (value_of command)

-- of a line as it is heard
abbrev pub CanBeHeard : HeardLine (List ℕ) → Type 0
CanBeHeard TooLong = Unit {0}
CanBeHeard (Bad fault) = Unit {0}
CanBeHeard (Asks command) = CanBeSaid command

-- so it is of every line that is read
abbrev pub ReadCanBeHeard : Type 0
ReadCanBeHeard = (line : List ℕ) (heard : HeardLine (List ℕ)) → IsLineRead line heard → CanBeHeard heard

-- ---- sessions

-- the name that waits for a PASS
abbrev pub AccessKeeps : Access (List ℕ) → Type 0
AccessKeeps Nobody = Unit {0}
AccessKeeps (AwaitsPass name) = IsName name
AccessKeeps Known = Unit {0}

-- the path of an RNFR, and the number of a REST
abbrev pub PendingKeeps : Pending Names → Type 0
PendingKeeps Pendings.Nothing = Unit {0}
PendingKeeps (Pendings.Rename from) = IsTrue (fits from)
PendingKeeps (Pendings.Restart place) = IsShort place

-- the path of an upload
abbrev pub TransferKeeps : Transfer → Type 0
TransferKeeps (Transfers.Upload path keep d) = IsTrue (fits path)
TransferKeeps Transfers.OverLimit = Unit {0}
TransferKeeps (Transfers.Download rest) = Unit {0}
TransferKeeps (Transfers.Listing rest) = Unit {0}

-- a transfer that waits for its data connection, or has it
abbrev pub ConnectionKeeps : ServerLink Transfer → Type 0
ConnectionKeeps Data.Free = Unit {0}
ConnectionKeeps (Data.Asked asked) = Unit {0}
ConnectionKeeps (Data.Active endpoint) = Unit {0}
ConnectionKeeps Data.Passive = Unit {0}
ConnectionKeeps Data.Ready = Unit {0}
ConnectionKeeps (Data.Opening transfer way) = TransferKeeps transfer
ConnectionKeeps (Data.Transferring transfer) = TransferKeeps transfer

-- all that a session keeps
pub record Keeps (s : Session) : Type 0 where
  pub access : AccessKeeps s.access
  pub root : IsTrue (fits s.root)
  pub cwd : IsTrue (is_path s.cwd)
  pub pending : PendingKeeps s.pending
  pub connection : ConnectionKeeps s.connection

-- each account's root is within the limits of paths
abbrev pub AreWithinLimits : Accounts → Type 0
AreWithinLimits accounts = list_all (λ account. fits account.root) accounts ≡ true

-- ---- what a line makes

-- a reply whose text is always the same, or none yet
abbrev pub IsBrief : ReplyKind Names → Type 0
IsBrief Replies.Nothing = Unit {0}
IsBrief (Replies.Fixed text) = Unit {0}
IsBrief other = ⊥

-- the reply tells what is within its limits, the session keeps its own, and where a port is asked for or a transfer stands, the reply
-- is brief
pub record TurnKeeps (turn : Turn) : Type 0 where
  pub told : IsTold turn.0 turn.1
  pub session : Keeps turn.0
  pub brief : (is_connection_busy turn.0.connection ≡ false) ⊎ IsBrief turn.1

-- so it is of every line that a session acts on
abbrev pub LineKeeps : Type 0
LineKeeps =
    (context : Context) (heard : HeardLine (List ℕ)) (pending : Pending Names) (s : Session)
    → AreWithinLimits context.accounts → CanBeHeard heard → PendingKeeps pending → Keeps s → is_connection_busy s.connection ≡ false
    → TurnKeeps (decided context heard pending s)
