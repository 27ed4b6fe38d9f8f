-- A session of two drives over control alone, as an example: the premises can be met (RFC 959, section 5.4).
use Rattle.std.specs.Prelude.{◌≡◌, ℕ, false, List, [], ◌∷◌, None, Some}
use Rattle.ftp_client_model.specs.Calls.{is_busy}
use Rattle.ftp_ports.specs.Actions.{Stand}
use Rattle.ftp_client_driver.specs.Side.{client_side}
use Rattle.ftp_ends.specs.RowWords.{here}
use Rattle.ftp_operation.specs.Answer.{Path, Said}
use Rattle.ftp_operation.specs.Rights.{all_rights}
use Rattle.ftp_operation.specs.declared.op.Op.{Op}
use Rattle.ftp_operation.specs.declared.op.Op.TheVariants as Ops
use Rattle.ftp_server_driver.specs.alone.Side.{server_side}
use Rattle.ftp_tree.specs.Map.{Dir}
use Rattle.ftp_tree.specs.Tree.{Table, node_at, root_alone}
use Rattle.laws_drivers.specs.control.Alone.{begun_in, reports_in}
use Rattle.laws_drivers.specs.control.Between.{Turn, client_actions, nothing_yet}
use Rattle.laws_drivers.specs.control.Claims.{Did}
use Rattle.laws_drivers.specs.control.Over.{AreOver}
use Rattle.laws_drivers.specs.control.Quitting.{HaveQuit}
use Rattle.laws_world.specs.Agreement.{Single}
use Rattle.laws_world.specs.Claims.{Beginning, IsFair}

-- somebody named `a`, who needs no password, logs in to a map
abbrev pub example : Table → Beginning
example table = record {
  user = 97 ∷ [];
  pass = 97 ∷ [];
  accounts = record { user = 97 ∷ []; pass = None; root = []; rights = all_rights } ∷ [];
  table = table;
  near_host = here;
  far_host = here;
}

-- actions of both, in an order in which each can happen: the greeting, the login and one operation, which has its report; then nothing lies between
pub record IsPlayed (table : Table) : Type 0 where
  pub turns : List Turn
  pub server : Stand server_side
  pub client : Stand client_side
  pub did : Did (example table) turns nothing_yet server client
  pub begun : begun_in 0 (client_actions turns) ≡ Single Ops.Where 0 ∷ []
  pub reports : reports_in (client_actions turns) ≡ Path (47 ∷ []) ∷ []
  pub free : is_busy client.owner.end.view ≡ false

-- so it is of every map that has a root
abbrev pub ExampleIsPlayed : Type 0
ExampleIsPlayed = (table : Table) → node_at table [] ≡ Some Dir → IsPlayed table

-- ---- until both drives are over

-- the operation and its answer
abbrev pub example_asked : List (Op (List ℕ) × Said)
example_asked = (Ops.Where, Path (47 ∷ [])) ∷ []

-- of every such map drives did so by their contracts, and the server's was over since the client left after it
abbrev pub ExampleIsOver : Type 0
ExampleIsOver = (table : Table) → node_at table [] ≡ Some Dir → (server : Stand server_side) × AreOver (example table) example_asked server

-- or since it heard QUIT, which was written after it
abbrev pub ExampleHasQuit : Type 0
ExampleHasQuit = (table : Table) → node_at table [] ≡ Some Dir → (server : Stand server_side) × HaveQuit (example table) example_asked server

-- the root alone is such a map, and the session is fair
abbrev pub ExampleIsFair : Type 0
ExampleIsFair = (node_at root_alone [] ≡ Some Dir) × IsFair (example root_alone)
