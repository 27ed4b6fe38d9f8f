-- Sessions of two drives that fetch a file, peek into one, and put one, over a passive data connection, as an example: the premises can be met (RFC 959,
-- section 5.4; RFC 2428).
use Rattle.std.specs.Prelude.{◌≡◌, ℕ, true, false, List, [], ◌∷◌, Some, nat_le}
use Rattle.ftp_ports.specs.Actions.{Stand}
use Rattle.ftp_operation.specs.Answer.{Done, Octets, Said}
use Rattle.ftp_operation.specs.declared.op.How.{How}
use Rattle.ftp_operation.specs.declared.op.Op.{Op}
use Rattle.ftp_operation.specs.declared.op.Op.TheVariants as Ops
use Rattle.ftp_server_driver.specs.alone.Side.{server_side}
use Rattle.ftp_settings.specs.Representation.{defaults}
use Rattle.ftp_tree.specs.Map.{Dir, File}
use Rattle.ftp_tree.specs.Tree.{Table, installed, node_at, room_at, root_alone}
use Rattle.laws_drivers.specs.control.Example.{example}
use Rattle.laws_transfers.specs.Over.{AreOver}
use Rattle.laws_transfers.specs.Quitting.{QuitAfterAll}
use Rattle.laws_world.specs.Claims.{IsFair}

-- the file's name, `f`, and its two octets
abbrev pub example_name : List ℕ
example_name = 102 ∷ []

abbrev pub example_octets : List ℕ
example_octets = 104 ∷ 105 ∷ []

-- as text, over a data connection that the client opens after EPSV
abbrev pub example_how : How
example_how = record { representation = defaults; marks = false; active = false; extended = true }

-- a map with a root and that file
pub record HasFile (table : Table) (stamp : ℕ) : Type 0 where
  pub root : node_at table [] ≡ Some Dir
  pub file : node_at table (example_name ∷ []) ≡ Some (File example_octets stamp)

-- ---- it is fetched

-- the operation and its answer: the whole file
abbrev pub fetch_asked : List (Op (List ℕ) × Said)
fetch_asked = (Ops.Get example_name example_how, Octets example_octets) ∷ []

-- of every such map, and at any moment, drives did so by their contracts, and the server's was over since the client left after it
abbrev pub FetchIsOver : Type 0
FetchIsOver =
    (table : Table) (stamp : ℕ) (moments : ℕ → ℕ) → HasFile table stamp → (server : Stand server_side) × AreOver (example table) moments fetch_asked server

-- or since it heard QUIT, which was written after it
abbrev pub FetchHasQuit : Type 0
FetchHasQuit =
    (table : Table) (stamp : ℕ) (moments : ℕ → ℕ) → HasFile table stamp → (server : Stand server_side) × QuitAfterAll (example table) moments fetch_asked server

-- ---- its first octet is

-- the operation and its answer
abbrev pub peek_asked : List (Op (List ℕ) × Said)
peek_asked = (Ops.Peek example_name 1 example_how, Octets (104 ∷ [])) ∷ []

-- of every such map, and at any moment, drives did so by their contracts, and the server's was over since the client left after it
abbrev pub PeekIsOver : Type 0
PeekIsOver =
    (table : Table) (stamp : ℕ) (moments : ℕ → ℕ) → HasFile table stamp → (server : Stand server_side) × AreOver (example table) moments peek_asked server

-- or since it heard QUIT, which was written after it
abbrev pub PeekHasQuit : Type 0
PeekHasQuit =
    (table : Table) (stamp : ℕ) (moments : ℕ → ℕ) → HasFile table stamp → (server : Stand server_side) × QuitAfterAll (example table) moments peek_asked server

-- ---- another is put in its place

-- its one octet
abbrev pub put_octets : List ℕ
put_octets = 104 ∷ []

-- the operation and its answer
abbrev pub put_asked : List (Op (List ℕ) × Said)
put_asked = (Ops.Put example_name put_octets example_how, Done) ∷ []

-- there is room for one octet
abbrev pub HasRoom : Table → Type 0
HasRoom table = nat_le 1 (room_at table (example_name ∷ [])) ≡ true

-- of every such map with that room drives did so by their contracts, at any moment, and the server's was over since the client left after it
abbrev pub PutIsOver : Type 0
PutIsOver =
    (table : Table) (stamp : ℕ) (moments : ℕ → ℕ) → HasFile table stamp → HasRoom table
    → (server : Stand server_side) × AreOver (example table) moments put_asked server

-- ---- there is such a map

-- the file alone, below the root
abbrev pub example_file_alone : Table
example_file_alone = installed root_alone (example_name ∷ []) example_octets 0

-- that is one, there is room, and the session is fair
pub record IsThere : Type 0 where
  pub has : HasFile example_file_alone 0
  pub room : HasRoom example_file_alone
  pub fair : IsFair (example example_file_alone)
