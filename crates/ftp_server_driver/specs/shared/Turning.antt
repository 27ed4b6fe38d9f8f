-- Some turns of a session among others: it is lent a tree for them, and gives it back after them (own choice).
use Rattle.std.specs.Prelude.{◌≡◌, ⊤, ℕ, Bool, true, false, List, [], ◌∷◌, Option, None}
use Rattle.std.specs.declared.result.Result.{Result}
use Rattle.std.specs.declared.result.Result.TheVariants.{Ok, Err}
use Rattle.ftp_ports.specs.Actions.{Stand}
use Rattle.ftp_ports.specs.declared.cause.Cause.{Cause}
use Rattle.ftp_driver.specs.declared.drive.Turned.{Turned}
use Rattle.ftp_driver.specs.declared.drive.Turned.TheVariants as Turns
use Rattle.ftp_server_driver.specs.alone.Driving.{MakesTurns}
use Rattle.ftp_server_driver.specs.alone.Side.{server_side}
use Rattle.ftp_server_model.specs.Standing.{standing_of, still_stands}
use Rattle.ftp_server_model.specs.declared.session.Standing.{Standing}
use Rattle.laws_server.specs.several.Several.{exchanged}
use Rattle.ftp_server_driver.specs.shared.Lending.{Exchange, Holding, found_at, own_again, tree_of, with_tree_at}

-- a turn of a session: so many turns of its drive at most, the tree that was lent, what it was told as what stood at the path of its upload, whether that still
-- stands there, what it left of the tree, what stands in that at the path of its upload, whether a read or a write of the control connection failed so far, and
-- how it went
pub record Turn : Type 0 where
  pub most : ℕ
  pub lent : Holding
  pub stood : Option Standing
  pub stays : Bool
  pub left : Holding
  pub stands : Option Standing
  pub failed : Bool
  pub went : Result (Turned ⊤) Cause

-- the server has the tree that is lent, where its upload is overtaken unless what stood at its path still stands there, makes its turns, and then has the tree
-- again that it had before; what its turns left of the other is given back, and what stands there at the path of its upload is told
pub record TakesTurn (turn : Turn) (old now : Stand server_side) : Type 0 where
  pub mid : Stand server_side
  pub stays : turn.stays ≡ still_stands turn.stood (standing_of (exchanged turn.lent.table old.owner.end.server.view).session)
  pub turned : MakesTurns turn.most turn.failed (with_tree_at turn.lent (found_at turn.stays old)) mid turn.went
  pub leaves : turn.left ≡ tree_of mid.owner.end
  pub stands : turn.stands ≡ standing_of mid.owner.end.server.view.session
  pub own : now ≡ with_tree_at (tree_of old.owner.end) mid

-- the drive goes on after it
abbrev pub goes_on : Result (Turned ⊤) Cause → Bool
goes_on (Ok Turns.Later) = true
goes_on (Ok Turns.More) = true
goes_on other = false

-- what the last of these turns told as what stands at the path of its upload; before the first one nothing is known
abbrev pub told_by : List Turn → Option Standing
told_by [] = None
told_by (turn ∷ before) = turn.stands

-- turns of a session, the last one first: each begins where the one before it ended, whatever others did between, and is told what that one told
abbrev pub AreTurns : List Turn → (start now : Stand server_side) → Type 0
AreTurns [] start now = now ≡ start
AreTurns (turn ∷ before) start now = (mid : Stand server_side) × AreTurns before start mid × TakesTurn turn mid now × (turn.stood ≡ told_by before)

-- after each of them the drive goes on
abbrev pub AllGoOn : List Turn → Type 0
AllGoOn [] = ⊤
AllGoOn (turn ∷ before) = AllGoOn before × (goes_on turn.went ≡ true)

-- the tree that is lent for it
abbrev pub lent_by : Turn → Exchange
lent_by turn = record { tree = turn.lent; stays = turn.stays }

-- the trees that a session has in turns, the last one first: what it is lent, and then its own again
abbrev pub trees_of : (own : Holding) → List Turn → List Exchange
trees_of own [] = []
trees_of own (turn ∷ before) = own_again own ∷ lent_by turn ∷ trees_of own before
