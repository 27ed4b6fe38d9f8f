-- The drive of a session among others: that of a server of its own, whose tree is exchanged now and then (own choice).
use Rattle.std.specs.Prelude.{◌≡◌, ⊤, Bool, true, List, [], ◌∷◌}
use Rattle.std.specs.declared.result.Result.{Result}
use Rattle.std.specs.declared.result.Result.TheVariants.{Ok, Err}
use Rattle.ftp_ends.specs.declared.link.Wants.TheVariants.{CloseAll}
use Rattle.ftp_ports.specs.Asking.{Asked}
use Rattle.ftp_ports.specs.Actions.{Action, Led, Other, Stand, with_owner}
use Rattle.ftp_ports.specs.Channel.{IsLeft}
use Rattle.ftp_ports.specs.Machine.{Held, IsCut, IsFairEnd, Left}
use Rattle.ftp_ports.specs.declared.cause.Cause.{Cause}
use Rattle.ftp_driver.specs.Driven.{BreaksOff, Did}
use Rattle.ftp_driver.specs.declared.drive.Turned.{Turned}
use Rattle.ftp_driver.specs.declared.drive.Turned.TheVariants as Turns
use Rattle.ftp_server_model.specs.Calls.{wants}
use Rattle.ftp_server_driver.specs.alone.Driving.{Drives}
use Rattle.ftp_server_driver.specs.alone.Side.{Timed, server_side}
use Rattle.ftp_server_driver.specs.shared.Lending.{Exchange, lent_at, lent_machine, lent_side, tree_of, trees_in, with_tree_at}
use Rattle.ftp_server_driver.specs.shared.Turning.{AllGoOn, AreTurns, Turn, lent_by, trees_of}

-- ---- how a drive goes, with these trees brought by its actions, the last one first; each is word for word what it is of a server of its own

-- actions led from here to there
pub record LeadsAmong (trees : List Exchange) (start now : Stand lent_side) : Type 0 where
  pub actions : List (Action lent_side)
  pub led : Led actions start now
  pub brings : trees_in actions ≡ trees

-- it is over: all that the server said was written, and it heard all that was read but for what is not heard yet; it is done with the control connection,
-- and its data connection was left last
pub record DroveAmong (trees : List Exchange) (start now : Stand lent_side) : Type 0 where
  pub asked : Asked
  pub did : Did lent_machine (Other (Left asked) ∷ []) start now
  pub over : wants now.owner.end.server.view ≡ CloseAll
  pub brings : trees_in did.actions ≡ trees

-- it broke off, for this cause, whether a read or a write failed or not: a beginning of what it said was written; then it was told that the control
-- connection ended, and its data connection was left, by an end only where none was unwritten and it had no more to give
pub record BrokeOffAmong (cause : Cause) (failed : Bool) (trees : List Exchange) (start now : Stand lent_side) : Type 0 where
  pub off : Stand lent_side
  pub breaks : BreaksOff lent_machine true cause failed start off
  pub stays : now ≡ with_owner now.owner off
  pub cut : Held Timed
  pub is_cut : IsCut lent_machine off.owner cut
  pub end : now.owner.end ≡ cut.end
  pub asked : Asked
  pub left : IsLeft asked cut.channel now.owner.channel
  pub fair : IsFairEnd cut.channel asked
  pub brings : trees_in breaks.actions ≡ trees

-- one of these, as turns went that came last, where a read or a write of the control connection failed or not
abbrev pub DrivesAmong : (failed : Bool) → (trees : List Exchange) → (start now : Stand lent_side) → Result (Turned ⊤) Cause → Type 0
DrivesAmong failed trees start now (Ok (Turns.Over over)) = DroveAmong trees start now
DrivesAmong failed trees start now (Ok Turns.Later) = LeadsAmong trees start now
DrivesAmong failed trees start now (Ok Turns.More) = LeadsAmong trees start now
DrivesAmong failed trees start now (Err cause) = BrokeOffAmong cause failed trees start now

-- ---- the turns of a session are one drive

-- from here, turns and then this one: one drive, which has just the trees that were lent, each in its turn, and between two turns its own; after the last
-- turn what the drive left of the tree is given back, and it has its own again
pub record IsOneDrive (turn : Turn) (before : List Turn) (start now : Stand server_side) : Type 0 where
  pub mid : Stand server_side
  pub drives : DrivesAmong turn.failed (lent_by turn ∷ trees_of (tree_of start.owner.end) before) (lent_at start) (lent_at mid) turn.went
  pub leaves : turn.left ≡ tree_of mid.owner.end
  pub own : now ≡ with_tree_at (tree_of start.owner.end) mid

-- so it is of all turns that a session takes from its beginning, where no octets of a data connection are on their way or in hand
abbrev pub TurnsAreOneDrive : Type 0
TurnsAreOneDrive =
    (turn : Turn) (before : List Turn) (start now : Stand server_side) → start.owner.channel.unwritten ≡ [] → start.owner.channel.untold ≡ []
    → AllGoOn before → AreTurns (turn ∷ before) start now → IsOneDrive turn before start now

-- ---- a drive without an exchange is that of a server of its own

-- one that came to its end, or broke off
abbrev pub ended_so : Result ⊤ Cause → Result (Turned ⊤) Cause
ended_so (Ok over) = Ok (Turns.Over over)
ended_so (Err cause) = Err cause

-- what is said of a session among others is what is said of a server of its own, where no tree is brought: neither less nor more
pub record AloneIsDrives : Type 0 where
  pub alone : (failed : Bool) (start now : Stand server_side) (r : Result ⊤ Cause) → start.owner.channel.unwritten ≡ [] → start.owner.channel.untold ≡ []
      → DrivesAmong failed [] (lent_at start) (lent_at now) (ended_so r) → Drives failed start now r
  pub among : (failed : Bool) (start now : Stand server_side) (r : Result ⊤ Cause) → start.owner.channel.unwritten ≡ [] → start.owner.channel.untold ≡ []
      → Drives failed start now r → DrivesAmong failed [] (lent_at start) (lent_at now) (ended_so r)
