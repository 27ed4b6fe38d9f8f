-- The map of some rows, in their order, and as a value that is stored.
use Rattle.std.specs.Prelude.{◌≡◌, ℕ, ◌||◌, not, Bool, List, [], ◌∷◌, ◌++◌, length, drop, Option, Some, None, refl}
use Rattle.std.specs.List.{filter, list_all, sum_by}
use Rattle.std.specs.Coded.{Coded, code_by, coded×, coded_ℕ, coded_list, coded_option}
use Rattle.std.specs.FinMap.{is_sorted}
use Rattle.ftp_path.specs.Path.{fits, Names, path_cmp, is_within}
use Rattle.ftp_tree.specs.Map.{Node, Dir, File, Map, length_of}
use Rattle.ftp_tree.specs.Tree.{Table}
use Rattle.ftp_tree.specs.declared.limits.Limits.{Limits}
use Rattle.std.specs.FinMap as fin

-- a node is stored as its octets and moment, where it is a file
abbrev pub node_parts : Node → Option (List ℕ × ℕ)
node_parts Dir = None
node_parts (File octets moment) = Some (octets, moment)

abbrev pub node_from : Option (List ℕ × ℕ) → Node
node_from None = Dir
node_from (Some parts) = File parts.0 parts.1

pub node_parts-from : (node : Node) → node_from (node_parts node) ≡ node
node_parts-from Dir = refl
node_parts-from (File octets moment) = refl

abbrev pub map_code : Coded Map
map_code = fin.code (coded_list (coded_list coded_ℕ)) (code_by (Option (List ℕ × ℕ)) (coded_option (coded× (coded_list coded_ℕ) coded_ℕ)) node_parts node_from node_parts-from)

-- limits are stored as three numbers, and a table as those and its map
abbrev pub table_parts : Table → (ℕ × (ℕ × ℕ)) × Map
table_parts table = ((table.limits.file, (table.limits.total, table.limits.nodes)), table.map)

abbrev pub table_from : (ℕ × (ℕ × ℕ)) × Map → Table
table_from parts = record { limits = record { file = parts.0.0; total = parts.0.1.0; nodes = parts.0.1.1 }; map = parts.1 }

abbrev pub table_code : Coded Table
table_code = code_by ((ℕ × (ℕ × ℕ)) × Map) (coded× (coded× coded_ℕ (coded× coded_ℕ coded_ℕ)) map_code) table_parts table_from (λ table. refl)

-- a map within some limits
abbrev pub whole : Limits → Map → Table
whole limits all = record { limits = limits; map = all }

-- ---- rows

-- paths and nodes, in the order of the paths
abbrev pub Rows : Type 0
Rows = List (Names × Node)

-- no path is the root's, and each comes before those behind it
abbrev pub is_in_order : Rows → Bool
is_in_order entries = is_sorted path_cmp (([], Dir) ∷ entries)

-- the octets of all files together
abbrev pub octets_of_rows : Rows → ℕ
octets_of_rows = sum_by (λ entry. length_of entry.1)

-- the map of some rows: theirs, and the root's
unfoldable pub table_of : Rows → Map
table_of entries = fin.from_sorted (([], Dir) ∷ entries)

-- those at or below a path
abbrev pub rows_within : Names → Rows → Rows
rows_within root = filter (λ entry. is_within root entry.0)

-- ---- moves

-- each path at or below `from` is within the limits once it is moved, where a root counts as none of it: `above` is that root
-- and `from` behind it
abbrev pub all_moves_fit : Names → Names → Rows → Bool
all_moves_fit above to = list_all (λ entry. not (is_within above entry.0) || fits (to ++ drop (length above) entry.0))
