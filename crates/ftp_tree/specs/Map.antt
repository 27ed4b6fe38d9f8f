-- The map of a tree alone, from paths (lists of names) to directories and files, apart from limits.
use Rattle.std.specs.Prelude.{ℕ, not, List, [], ◌∷◌, ◌++◌, length, drop, map, Option, Some, None}
use Rattle.std.specs.Option.{unwrap_or}
use Rattle.std.specs.List.{filter, filter_map, sum_by}
use Rattle.std.specs.FinMap.{FinMap}
use Rattle.ftp_path.specs.Path.{Names, path_cmp, is_within, name_in}
use Rattle.std.specs.FinMap as fin

-- what stands at a path: a directory, or a file with its octets and the second in which it was installed
pub data Node : Type 0 where
  Dir : Node
  File : (octets : List ℕ) → (moment : ℕ) → Node

-- all paths at which something stands
abbrev pub Map : Type 0
Map = FinMap path_cmp Node

-- what stands at a path
unfoldable pub node_at : Map → Names → Option Node
node_at all path = fin.get all path

-- the octets and the moment of a file
abbrev pub octets_of : Node → Option (List ℕ)
octets_of Dir = None
octets_of (File octets moment) = Some octets

abbrev pub moment_of : Node → Option ℕ
moment_of Dir = None
moment_of (File octets moment) = Some moment

-- what a directory shows of what stands in it: of a file its octets counted, and its moment
abbrev pub shown_of : Node → Option (ℕ × ℕ)
shown_of Dir = None
shown_of (File octets moment) = Some (length octets, moment)

abbrev pub of_node : {X : Type 0} → (Node → Option X) → Option Node → Option X
of_node f None = None
of_node f (Some node) = f node

-- the names in a directory, in the order of their octets
unfoldable pub children : Map → Names → List (List ℕ)
children all path = filter_map (name_in path) (fin.keys all)

-- what a directory shows, in that order: each name and, of a file, its octets counted and its moment
unfoldable pub entries_at : Map → Names → List (List ℕ × Option (ℕ × ℕ))
entries_at all path = map (λ name. (name, of_node shown_of (node_at all (path ++ name ∷ [])))) (children all path)

abbrev pub length_of : Node → ℕ
length_of node = length (unwrap_or (octets_of node) [])

-- the octets of all files together
unfoldable pub octets_in : Map → ℕ
octets_in all = sum_by (λ entry. length_of entry.1) (fin.entries all)

-- the root alone
unfoldable pub root_alone : Map
root_alone = fin.insert fin.empty [] Dir

-- the part of a map at or below a path, with that path taken off each path
unfoldable pub under : Map → Names → Map
under all path = fin.from_entries (map (λ entry. (drop (length path) entry.0, entry.1)) (filter (λ entry. is_within path entry.0) (fin.entries all)))

-- the map with a part in the place of what stood at or below a path
unfoldable pub with_part : Map → Names → Map → Map
with_part all path part =
    fin.from_entries (filter (λ entry. not (is_within path entry.0)) (fin.entries all) ++ map (λ entry. (path ++ entry.0, entry.1)) (fin.entries part))
