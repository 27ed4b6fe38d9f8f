-- A session of several over one tree that others leave as they find it: all of its turns are one drive of a server of its own, which has that tree (own
-- choice).
use Rattle.std.specs.Prelude.{◌≡◌, ⊤, ℕ, eqb, Bool, false, List, [], ◌∷◌, ◌++◌, Some, slice_get}
use Rattle.std.specs.declared.result.Result.{Result}
use Rattle.std.specs.declared.result.Result.TheVariants.{Ok, Err}
use Rattle.ftp_ports.specs.Actions.{Action, Led, Other, Stand}
use Rattle.ftp_ports.specs.Machine.{Left}
use Rattle.ftp_ports.specs.declared.cause.Cause.{Cause}
use Rattle.ftp_driver.specs.declared.drive.Turned.{Turned}
use Rattle.ftp_driver.specs.declared.drive.Turned.TheVariants as Turns
use Rattle.ftp_server_driver.specs.alone.Driving.{BrokeOff, Drove, MakesTurns}
use Rattle.ftp_server_driver.specs.alone.Side.{server_side}
use Rattle.ftp_server_driver.specs.shared.Lending.{Holding, found_at, tree_of, with_tree_at}
use Rattle.ftp_server_driver.specs.shared.Sharing.{SharingEvent, SharingHappened, Looks, Shared, Turns as TurnsOf, turns_in}
use Rattle.ftp_server_driver.specs.shared.Turning.{AllGoOn, AreTurns, Turn}
use Rattle.ftp_path.specs.Path.{Names}
use Rattle.ftp_server_model.specs.Play.{only_at}
use Rattle.ftp_tree.specs.Tree.{Table}

-- ---- what is found of a tree: all of it, or a part

-- map and failures of its device
abbrev pub whole_holding : Holding → Holding
whole_holding tree = tree

-- of the map what stands at and below a root
abbrev pub part_at : Names → Holding → Table
part_at root tree = only_at root tree.table

-- ---- turns, the last one first

-- each but the first is lent a tree of which this is as the turn before it left it, whatever others did between
abbrev pub FindWhatWasLeft : {X : Type 0} → (part : Holding → X) → List Turn → Type 0
FindWhatWasLeft part [] = ⊤
FindWhatWasLeft part (turn ∷ []) = ⊤
FindWhatWasLeft part (turn ∷ last ∷ before) = FindWhatWasLeft part (last ∷ before) × (part turn.lent ≡ part last.left)

-- the tree that the first of them is lent
abbrev pub lent_first : Turn → List Turn → Holding
lent_first turn [] = turn.lent
lent_first turn (last ∷ before) = lent_first last before

-- what a turn did, the last action first; of one that broke off, what it did before that
abbrev pub actions_by : (most : ℕ) (failed : Bool) (old now : Stand server_side) (went : Result (Turned ⊤) Cause) → MakesTurns most failed old now went
    → List (Action server_side)
actions_by most failed old now (Ok (Turns.Over over)) makes = Other (Left makes.asked) ∷ makes.actions
actions_by most failed old now (Ok Turns.Later) makes = makes.actions
actions_by most failed old now (Ok Turns.More) makes = makes.leads.actions
actions_by most failed old now (Err cause) makes = makes.fails.leads.actions

-- what all of them did
abbrev pub server_actions_in : (turns : List Turn) (start now : Stand server_side) → AreTurns turns start now → List (Action server_side)
server_actions_in [] start now are = []
server_actions_in (turn ∷ before) start now are =
    actions_by turn.most turn.failed (with_tree_at turn.lent (found_at turn.stays are.0)) are.2.mid turn.went are.2.turned ++ server_actions_in before start are.0 are.1

-- ---- one drive

-- a server of its own did these actions, the last one first, as a turn went that came last: its drive is over, goes on, or broke off
abbrev pub DrivesBy : (actions : List (Action server_side)) → (failed : Bool) → (start now : Stand server_side) → Result (Turned ⊤) Cause → Type 0
DrivesBy actions failed start now (Ok (Turns.Over over)) = (drove : Drove start now) × (Other (Left drove.asked) ∷ drove.did.actions ≡ actions)
DrivesBy actions failed start now (Ok Turns.Later) = Led actions start now
DrivesBy actions failed start now (Ok Turns.More) = Led actions start now
DrivesBy actions failed start now (Err cause) = (broke : BrokeOff cause failed start now) × (broke.breaks.actions ≡ actions)

-- Turns and then this one: one drive of a server of its own, which has the tree that the first of them was lent, and did just their actions. What it has left of
-- that is what the last turn gave back
pub record IsOwnDrive (turn : Turn) (before : List Turn) (start now : Stand server_side) (are : AreTurns (turn ∷ before) start now) : Type 0 where
  pub drives : DrivesBy (server_actions_in (turn ∷ before) start now are) turn.failed (with_tree_at (lent_first turn before) start) are.2.mid turn.went
  pub leaves : turn.left ≡ tree_of are.2.mid.owner.end

-- so it is of all turns that a session takes from its beginning, where no octets of a data connection are on their way or in hand
abbrev pub TurnsAreOwnDrive : Type 0
TurnsAreOwnDrive =
    (turn : Turn) (before : List Turn) (start now : Stand server_side) → start.owner.channel.unwritten ≡ [] → start.owner.channel.untold ≡ []
    → AllGoOn before → FindWhatWasLeft whole_holding (turn ∷ before) → (are : AreTurns (turn ∷ before) start now) → IsOwnDrive turn before start now are

-- ---- among several

module _ {X : Type 0} (part : Holding → X) (slot : ℕ) where
  -- this of the tree other sessions leave as they find it, in each of their turns, and so it is found where it is looked at anew
  abbrev pub LeavesIt : SharingEvent → Shared → Type 0
  LeavesIt (TurnsOf other turn) old = eqb other slot ≡ false → part turn.left ≡ part turn.lent
  LeavesIt (Looks tree) old = part tree ≡ part old.tree

  abbrev pub OthersLeaveIt : (events : List SharingEvent) (start now : Shared) → SharingHappened events start now → Type 0
  OthersLeaveIt [] start now happened = ⊤
  OthersLeaveIt (event ∷ before) start now happened = OthersLeaveIt before start happened.0 happened.1 × LeavesIt event happened.0

  -- the turns of the session in a slot, which is this as it begins: they follow one another, each finds what the one before it left, the first one found what
  -- stood in the beginning, and what the last one gave back stands in the end
  pub record IsLeftAlone (first : Stand server_side) (turn : Turn) (before : List Turn) (start now : Shared) : Type 0 where
    pub last : Stand server_side
    pub sits : slice_get now.slots slot ≡ Some last
    pub are : AreTurns (turn ∷ before) first last
    pub found : FindWhatWasLeft part (turn ∷ before)
    pub lent : part (lent_first turn before) ≡ part start.tree
    pub left : part now.tree ≡ part turn.left

-- so it is of each session that others leave alone, of all of the tree or of a part
abbrev pub AreLeftAlone : {X : Type 0} → (part : Holding → X) → Type 0
AreLeftAlone part =
    (events : List SharingEvent) (start now : Shared) (slot : ℕ) (first : Stand server_side) (turn : Turn) (before : List Turn)
    → (happened : SharingHappened events start now) → OthersLeaveIt part slot events start now happened → slice_get start.slots slot ≡ Some first
    → turns_in slot events ≡ turn ∷ before → IsLeftAlone part slot first turn before start now

-- the whole tree, and what stands at and below a root
abbrev pub EachIsLeftAlone : Type 0
EachIsLeftAlone = AreLeftAlone whole_holding × ((root : Names) → AreLeftAlone (part_at root))
