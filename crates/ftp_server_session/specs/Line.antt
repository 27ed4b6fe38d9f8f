-- A line as a session is given it, and what it leaves where it could not be done.
use Rattle.std.specs.Prelude.{◌≡◌, ℕ, List, true, Result, Ok, Err}
use Rattle.ftp_command.specs.Command.{value_of}
use Rattle.ftp_command.specs.Line.{IfGiven}
use Rattle.ftp_command.specs.declared.command.Command.{Command}
use Rattle.ftp_command.specs.declared.value.Value.{Value}
use Rattle.ftp_command.specs.declared.value.Value.TheVariants as value
use Rattle.ftp_path.specs.Path.{IsPathText, Names}
use Rattle.ftp_tree.specs.Change.{Failures, IsSteady, NoStray}
use Rattle.ftp_tree.specs.Tree.{Table}
use Rattle.ftp_server_model.specs.Act.{decided, forgets, is_allowed}
use Rattle.ftp_server_model.specs.Failing.{may_fail}
use Rattle.ftp_server_model.specs.View.{Context, Session, Transfer}
use Rattle.ftp_server_model.specs.declared.reply.ReplyKind.{ReplyKind}
use Rattle.ftp_server_session.specs.Session.{session_of}
use Rattle.ftp_server_replies.specs.Fault.{Counted}
use Rattle.ftp_server_replies.specs.declared.fault.Fault.{Fault}
use Rattle.ftp_server_session.specs.declared.session.Session.{Session as Held}
use Rattle.ftp_server_model.specs.declared.heard.HeardLine.{HeardLine}
use Rattle.ftp_server_model.specs.declared.heard.HeardLine.TheVariants.{TooLong, Bad, Asks}
use Rattle.ftp_server_model.specs.declared.session.Pending.{Pending}
use Rattle.ftp_server_model.specs.declared.session.Pending.TheVariants as Pendings

-- the texts by which a value names paths are path texts, as those of each line that is read are
abbrev pub ValueHasPathTexts : Value (List ℕ) → Type 0
ValueHasPathTexts (value.Path text) = IsPathText text
ValueHasPathTexts (value.PathOrNone text) = IfGiven IsPathText text
ValueHasPathTexts (value.Listed text) = IfGiven IsPathText text
ValueHasPathTexts other = Unit {0}

-- the same of a command
abbrev pub HasPathTexts : Command (List ℕ) → Type 0
HasPathTexts command = ValueHasPathTexts (value_of command)

-- the same of a line
abbrev pub HeardPaths : HeardLine (List ℕ) → Type 0
HeardPaths TooLong = Unit {0}
HeardPaths (Bad fault) = Unit {0}
HeardPaths (Asks command) = HasPathTexts command

-- a command that could not be done: one that may fail and is allowed. What was pending for it is gone, a transfer command has
-- forgotten the endpoint, and all else is as before
abbrev pub LineLost : HeardLine (List ℕ) → Session → Session → Type 0
LineLost TooLong old new = ⊥
LineLost (Bad fault) old new = ⊥
LineLost (Asks command) old new =
    (is_allowed command old ≡ true) × (may_fail command ≡ true) × (new ≡ forgets command (record old { pending = Pendings.Nothing }))

-- what a command leaves once its turn has come: its row and the login it needs; or it could not be done, and a transfer command has
-- forgotten the endpoint
abbrev pub DecidesCommand : {A T J : Type 0} → (T → Table) → (T → Failures) → (J → Transfer) → Context → Command (List ℕ) → Pending Names → Held A T J → Held A T J → Result (ReplyKind Names) Fault → Type 0
DecidesCommand table failures view context command pending old new (Ok kind) =
    (NoStray (failures old.tree) (failures new.tree) → (session_of table view new, kind) ≡ decided context (Asks command) pending (session_of table view old))
    × IsSteady (failures old.tree) (failures new.tree)
DecidesCommand table failures view context command pending old new (Err fault) =
    (is_allowed command (session_of table view old) ≡ true) × (may_fail command ≡ true)
    × (NoStray (failures old.tree) (failures new.tree) → session_of table view new ≡ forgets command (session_of table view old))
    × Counted fault (failures old.tree) (failures new.tree)

-- what a line leaves: what was pending is taken, then session and reply are those of the order of decisions; or it could not be done
abbrev pub Decides : {A T J : Type 0} → (T → Table) → (T → Failures) → (J → Transfer) → Context → HeardLine (List ℕ) → Held A T J → Held A T J → Result (ReplyKind Names) Fault → Type 0
Decides table failures view context heard old new (Ok kind) =
    let s = session_of table view old in
    (NoStray (failures old.tree) (failures new.tree)
    → (session_of table view new, kind) ≡ decided context heard s.pending (record s { pending = Pendings.Nothing }))
    × IsSteady (failures old.tree) (failures new.tree)
Decides table failures view context heard old new (Err fault) =
    (NoStray (failures old.tree) (failures new.tree) → LineLost heard (session_of table view old) (session_of table view new))
    × Counted fault (failures old.tree) (failures new.tree)
