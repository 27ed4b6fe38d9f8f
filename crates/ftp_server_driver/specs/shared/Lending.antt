-- A server whose tree is exchanged between its turns, as the end of a session that is driven (own choice).
use Rattle.std.specs.Prelude.{◌≡◌, Bool, true, List, [], ◌∷◌, ◌++◌}
use Rattle.ftp_ports.specs.Actions.{Action, Other, Stand, with_owner}
use Rattle.ftp_ports.specs.Machine.{Aside, Machine, held, side_of}
use Rattle.ftp_ports.specs.Side.{Side}
use Rattle.ftp_server_driver.specs.alone.Side.{Timed, server_machine, server_side}
use Rattle.ftp_server_model.specs.Standing.{overtaken_unless}
use Rattle.ftp_server_model.specs.View.{View}
use Rattle.laws_server.specs.several.Swapping.{swapped}
use Rattle.ftp_tree.specs.Change.{Failures}
use Rattle.ftp_tree.specs.Tree.{Table}

-- a tree as a server has it: its map, and the failures of its device so far
pub record Holding : Type 0 where
  pub table : Table
  pub failures : Failures

-- of a map and failures
abbrev pub holding : Table → Failures → Holding
holding table failures = record { table = table; failures = failures }

-- the tree that a server has
abbrev pub tree_of : Timed → Holding
tree_of at = holding at.server.view.session.table at.server.counts.failures

-- it has another one: its map is that of the tree, and it counts the failures of that; all else stays, and what its clock told
abbrev pub with_tree : Holding → Timed → Timed
with_tree tree at = record at { server = swapped tree.table tree.failures at.server }

-- an upload of it is overtaken, unless what stood at its path still stands there
abbrev pub found : (stays : Bool) → View → View
found stays v = record v { session = record v.session { connection = overtaken_unless stays v.session.connection } }

abbrev pub found_by : (stays : Bool) → Timed → Timed
found_by stays at = record at { server = record at.server { view = found stays at.server.view } }

-- an exchange of its tree, and whether what stood at the path of an upload still stands in the other one
pub record Exchange : Type 0 where
  pub tree : Holding
  pub stays : Bool

-- by which it has its own tree again
abbrev pub own_again : Holding → Exchange
own_again tree = record { tree = tree; stays = true }

-- its own calls: it is asked whether it is done with the control connection, or its tree is exchanged for another
pub data Own : Type 0 where
  Asks : Own
  Exchanged : (exchange : Exchange) → Own

-- what each does: it is as the server of a drive of its own, or has the other tree
abbrev pub Owns : Own → (old new : Timed) → Type 0
Owns Asks old new = server_machine.Owns tt old new
Owns (Exchanged exchange) old new = new ≡ with_tree exchange.tree (found_by exchange.stays old)

-- the server of a drive of its own, word for word, with one more call: an exchange of its tree
abbrev pub lent_machine : Machine
lent_machine = record server_machine { Own = Own; Owns = λ own old new. Owns own old new }

-- as one of the two sides that are driven
abbrev pub lent_side : Side
lent_side = side_of lent_machine

-- a stand of a drive of its own, as one of a drive whose tree may be exchanged
abbrev pub lent_at : Stand server_side → Stand lent_side
lent_at stand = record { owner = stand.owner; left = stand.left; unheard = stand.unheard; written = stand.written }

-- the same stand, but for another tree: no octet moves
abbrev pub with_tree_at : Holding → Stand server_side → Stand server_side
with_tree_at tree stand = with_owner (held (with_tree tree stand.owner.end) stand.owner.channel) stand

-- the same stand, where an upload may be overtaken
abbrev pub found_at : (stays : Bool) → Stand server_side → Stand server_side
found_at stays stand = with_owner (held (found_by stays stand.owner.end) stand.owner.channel) stand

-- the exchange that an action is
abbrev pub tree_by : Action lent_side → List Exchange
tree_by (Other (Aside (Exchanged exchange))) = exchange ∷ []
tree_by other = []

-- those that actions are, the last one first
abbrev pub trees_in : List (Action lent_side) → List Exchange
trees_in [] = []
trees_in (action ∷ before) = tree_by action ++ trees_in before
