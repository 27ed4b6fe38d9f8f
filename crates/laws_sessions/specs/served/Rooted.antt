-- A session whose account has a root, among others that leave what stands at and below it as they find it: but for what stands elsewhere its turns are one
-- drive of a server of its own (own choice).
use Rattle.std.specs.Prelude.{◌≡◌, ⊤, ℕ, Bool, List, [], ◌∷◌, None}
use Rattle.std.specs.List.{AllByRecursion}
use Rattle.std.specs.declared.result.Result.{Result}
use Rattle.std.specs.declared.result.Result.TheVariants.{Ok, Err}
use Rattle.ftp_ports.specs.Actions.{Action, Heard, Other, Stand, with_owner}
use Rattle.ftp_ports.specs.Machine.{Held, Left, held}
use Rattle.ftp_ports.specs.declared.cause.Cause.{Cause}
use Rattle.ftp_driver.specs.declared.drive.Turned.{Turned}
use Rattle.ftp_driver.specs.declared.drive.Turned.TheVariants as Turns
use Rattle.ftp_path.specs.Path.{Names}
use Rattle.ftp_server_driver.specs.alone.Driving.{MakesTurns}
use Rattle.ftp_server_driver.specs.alone.Side.{Timed, server_side}
use Rattle.ftp_server_driver.specs.shared.Lending.{found_at, with_tree_at}
use Rattle.ftp_server_driver.specs.shared.Turning.{AllGoOn, AreTurns, Turn}
use Rattle.ftp_server_model.specs.Calls.{clock_step}
use Rattle.ftp_server_model.specs.Failing.{Counts}
use Rattle.ftp_server_model.specs.Far.{Server}
use Rattle.ftp_server_model.specs.Machine.{IsReading, Reading, hears}
use Rattle.ftp_server_model.specs.Play.{IsAt, only_at}
use Rattle.ftp_server_model.specs.View.{Accounts}
use Rattle.laws_server.specs.several.Company.{IsInSlot}
use Rattle.laws_server.specs.several.Several.{exchanged}
use Rattle.ftp_tree.specs.Tree.{Table}
use Rattle.laws_drivers.specs.control.Alone.{ServerIsCalm}
use Rattle.laws_drivers.specs.events.Actions.{Along}
use Rattle.laws_sessions.specs.served.Alone.{DrivesBy, FindWhatWasLeft, server_actions_in, lent_first, part_at}

-- ---- who stays there

-- who logs in by an action has this root, whatever stands elsewhere and whenever it is: only a line that is heard logs somebody in
abbrev pub ActionLogsInAt : Names → Action server_side → Held Timed → Type 0
ActionLogsInAt root (Heard octets) old =
    (read : Reading) → IsReading read → (table : Table) (moment : ℕ) → IsAt root (hears read (clock_step moment (exchanged table old.end.server.view)) octets)
ActionLogsInAt root action old = ⊤

-- so it is in an action that leaves both counts, before which no line waits
pub record StaysAt (root : Names) (action : Action server_side) (old new : Held Timed) : Type 0 where
  pub calm : ServerIsCalm old new
  pub none_waits : old.end.server.view.waiting ≡ None
  pub logs_in : ActionLogsInAt root action old

-- and in each action of turns that did not break off
abbrev pub TurnStaysAt : (root : Names) (most : ℕ) (failed : Bool) (old now : Stand server_side) (went : Result (Turned ⊤) Cause)
    → MakesTurns most failed old now went → Type 0
TurnStaysAt root most failed old now (Ok (Turns.Over over)) makes = Along (StaysAt root) (Other (Left makes.asked) ∷ makes.actions) old now makes.led
TurnStaysAt root most failed old now (Ok Turns.Later) makes = Along (StaysAt root) makes.actions old now makes.led
TurnStaysAt root most failed old now (Ok Turns.More) makes = Along (StaysAt root) makes.leads.actions old now makes.leads.led
TurnStaysAt root most failed old now (Err cause) makes = ⊥

abbrev pub TurnsStayAt : (root : Names) (turns : List Turn) (start now : Stand server_side) → AreTurns turns start now → Type 0
TurnsStayAt root [] start now are = ⊤
TurnsStayAt root (turn ∷ before) start now are =
    TurnsStayAt root before start are.0 are.1
    × TurnStaysAt root turn.most turn.failed (with_tree_at turn.lent (found_at turn.stays are.0)) are.2.mid turn.went are.2.turned

-- ---- but for what stands elsewhere

-- a server with this map and these counts; all else stays
abbrev pub server_but : Table → Counts → Server → Server
server_but table counts server = record { view = exchanged table server.view; counts = counts }

abbrev pub stand_but : Table → Counts → Stand server_side → Stand server_side
stand_but table counts stand =
    with_owner (held (record stand.owner.end { server = server_but table counts stand.owner.end.server }) stand.owner.channel) stand

-- Turns and then this one: one drive of a server of its own, which has the tree that the first of them was lent, and did just their actions. It is left with a
-- map of which the same stands at and below the root as of that which the last turn gave back, and with all else as that turn left it
pub record IsOwnDriveBut (root : Names) (turn : Turn) (before : List Turn) (start now : Stand server_side)
    (are : AreTurns (turn ∷ before) start now) : Type 0 where
  pub left : Stand server_side
  pub drives : DrivesBy (server_actions_in (turn ∷ before) start now are) turn.failed (with_tree_at (lent_first turn before) start) left turn.went
  pub table : Table
  pub counts : Counts
  pub but : left ≡ stand_but table counts are.2.mid
  pub same : only_at root table ≡ only_at root turn.left.table

-- so it is of all turns from where nobody with another root is logged in, each of which finds what stands at and below the root as the one before left it
abbrev pub TurnsAreOwnDriveBut : Type 0
TurnsAreOwnDriveBut =
    (root : Names) (turn : Turn) (before : List Turn) (start now : Stand server_side) → start.owner.channel.unwritten ≡ [] → start.owner.channel.untold ≡ []
    → IsInSlot root start.owner.end.server.view → AllGoOn before → FindWhatWasLeft (part_at root) (turn ∷ before)
    → (are : AreTurns (turn ∷ before) start now) → TurnsStayAt root (turn ∷ before) start now are → IsOwnDriveBut root turn before start now are

-- ---- accounts that have one root

-- each account has this root
abbrev pub AccountsAt : Names → Accounts → Type 0
AccountsAt root accounts = AllByRecursion (λ account. account.root ≡ root) accounts

-- then whatever is heard logs nobody in elsewhere
abbrev pub AccountsStayAt : Type 0
AccountsStayAt =
    (root : Names) (octets : List ℕ) (at : Held Timed) → AccountsAt root at.end.server.view.context.accounts → IsAt root at.end.server.view
    → ActionLogsInAt root (Heard octets) at
