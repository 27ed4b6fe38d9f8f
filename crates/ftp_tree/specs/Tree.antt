-- The tree of a server, as a finite map from paths (lists of names) to directories and files; what may be changed, and what
-- is refused. No command and no reply stands here (RFC 959, section 4.1.3; the limits are own choices).
use Rattle.std.specs.Prelude.{◌≡◌, ℕ, ◌-◌, ◌||◌, ◌&&◌, not, min, List, [], ◌∷◌, length, map, Bool, Option, Some, None, IsSome, is_none, is_some, nat_le, if◌then◌else◌}
use Rattle.std.specs.Option.{option_map, option_or, unwrap_or}
use Rattle.std.specs.List.{list_all}
use Rattle.ftp_path.specs.Path.{Names, parent, fits, is_within, moved_path}
use Rattle.ftp_path.specs.declared.fault.PathFault.{PathFault}
use Rattle.ftp_tree.specs.declared.fault.TreeFault.{TreeFault}
use Rattle.ftp_tree.specs.declared.fault.TreeFault.TheVariants.{Absent, Exists, NotEmpty, WrongKind, TooBig, Full, Busy, BadOffset, Memory}
use Rattle.ftp_tree.specs.declared.limits.Limits.{Limits}
use Rattle.ftp_tree.specs.declared.tree.NodeKind.{NodeKind}
use Rattle.ftp_tree.specs.Map.{Node, Dir, File, Map, octets_of, moment_of, of_node}
use Rattle.std.specs.FinMap as fin
use Rattle.ftp_path.specs.declared.fault.PathFault.TheVariants as PathFaults
use Rattle.ftp_tree.specs.declared.tree.NodeKind.TheVariants as Kinds
use Rattle.ftp_tree.specs.Map as maps

-- the map of all paths at which something stands, and its limits: the most octets of a file, of all files together, and the
-- most nodes beside the root
pub record Table : Type 0 where
  pub limits : Limits
  pub map : Map

-- the limits of every tree that is told no others (own choices)
abbrev pub default_limits : Limits
default_limits = record { file = 67108864; total = 67108864; nodes = 16384 }

-- the most octets that any limit lets a file have, or all files together: numbers of 18 digits tell each length, also doubled
-- (own choice)
abbrev pub most_octets : ℕ
most_octets = 100000000000000000

-- ---- what stands where

-- what stands at a path
unfoldable pub node_at : Table → Names → Option Node
node_at table path = maps.node_at table.map path

abbrev pub kind_of : Node → NodeKind
kind_of Dir = Kinds.Dir
kind_of (File octets moment) = Kinds.File

-- which kind of node stands at a path
unfoldable pub kind_at : Table → Names → Option NodeKind
kind_at table path = option_map kind_of (node_at table path)

-- the octets of the file at a path, where one stands there; how many they are; the second in which it was installed
unfoldable pub octets_at : Table → Names → Option (List ℕ)
octets_at table path = of_node octets_of (node_at table path)

unfoldable pub size_at : Table → Names → Option ℕ
size_at table path = option_map length (octets_at table path)

unfoldable pub stamp_at : Table → Names → Option ℕ
stamp_at table path = of_node moment_of (node_at table path)

-- the octets of a file, and none where no file stands
abbrev pub octets_or_none : Table → Names → List ℕ
octets_or_none table path = unwrap_or (octets_at table path) []

-- the names in a directory, in the order of their octets
unfoldable pub children : Table → Names → List (List ℕ)
children table path = maps.children table.map path

-- what a directory shows, in that order: each name and, of a file, its octets counted and its moment
unfoldable pub entries_at : Table → Names → List (List ℕ × Option (ℕ × ℕ))
entries_at table path = maps.entries_at table.map path

-- the octets of all files together
unfoldable pub octets_in : Table → ℕ
octets_in table = maps.octets_in table.map

-- the root is a directory, and so is the parent of each path at which something stands
pub record IsTree (table : Table) : Type 0 where
  pub root : node_at table [] ≡ Some Dir
  pub parents : (path : Names) → IsSome (node_at table path) → node_at table (parent path) ≡ Some Dir

-- ---- changes of the whole map

-- the tree of the root alone, within some limits
unfoldable pub root_within : Limits → Table
root_within limits = record { limits = limits; map = maps.root_alone }

unfoldable pub root_alone : Table
root_alone = root_within default_limits

-- with a directory at a path, and all else as before
unfoldable pub made : Table → Names → Table
made table path = record table { map = fin.insert table.map path Dir }

-- without what stood at a path
unfoldable pub removed : Table → Names → Table
removed table path = record table { map = fin.remove table.map path }

-- with a file at a path
unfoldable pub installed : Table → Names → List ℕ → ℕ → Table
installed table path octets moment = record table { map = fin.insert table.map path (File octets moment) }

-- with all that stood at `from` or below it at `to` and below it
unfoldable pub moved : Table → Names → Names → Table
moved table from to = record table { map = fin.from_entries (map (λ entry. (moved_path from to entry.0, entry.1)) (fin.entries table.map)) }

-- ---- a part of the map: what an account sees below its root

-- the part of a map at or below a path, with that path taken off each path; its limits are those of the map
unfoldable pub under : Table → Names → Table
under table path = record table { map = maps.under table.map path }

-- the map with a part in the place of what stood at or below a path; its limits are those of the part
unfoldable pub with_part : Table → Names → Table → Table
with_part table path part = record part { map = maps.with_part table.map path part.map }

-- ---- what is refused, and why: the first reason that applies

-- a path's fault, as a tree tells it
abbrev pub of_path : PathFault → TreeFault
of_path PathFaults.NotText = WrongKind
of_path PathFaults.TooBig = TooBig
of_path PathFaults.Memory = Memory

-- the first of two reasons
abbrev pub or_else : Option TreeFault → Option TreeFault → Option TreeFault
or_else first second = option_or first second

-- a reason where a condition holds
abbrev pub whenever : Bool → TreeFault → Option TreeFault
whenever holds fault = if holds then Some fault else None

-- a directory is needed there
abbrev pub directory_refusal : Option Node → Option TreeFault
directory_refusal None = Some Absent
directory_refusal (Some Dir) = None
directory_refusal (Some (File octets moment)) = Some WrongKind

-- a new path needs a directory above it, and is within the limits of a path
abbrev pub place_refusal : Table → Names → Option TreeFault
place_refusal table path = or_else (directory_refusal (node_at table (parent path))) (whenever (not (fits path)) TooBig)

-- the most nodes beside the root
abbrev pub node_limit : Table → ℕ
node_limit table = table.limits.nodes

-- so many are all
abbrev pub nodes_refusal : Table → Option TreeFault
nodes_refusal table = whenever (not (nat_le (fin.len table.map) (node_limit table))) Full

-- a directory is made where nothing is, in a directory, within the limits
unfoldable pub make_refusal : Table → Names → Option TreeFault
make_refusal table path = or_else (whenever (is_some (node_at table path)) Exists) (or_else (place_refusal table path) (nodes_refusal table))

-- a directory is removed where it is empty, and the root is not
abbrev pub empty_refusal : List (List ℕ) → Names → Option TreeFault
empty_refusal (name ∷ names) path = Some NotEmpty
empty_refusal [] [] = Some Busy
empty_refusal [] (name ∷ names) = None

abbrev pub remove_answer : Option Node → List (List ℕ) → Names → Option TreeFault
remove_answer None names path = Some Absent
remove_answer (Some (File octets moment)) names path = Some WrongKind
remove_answer (Some Dir) names path = empty_refusal names path

unfoldable pub remove_refusal : Table → Names → Option TreeFault
remove_refusal table path = remove_answer (node_at table path) (children table path) path

-- a file is needed there
abbrev pub file_refusal : Option Node → Option TreeFault
file_refusal None = Some Absent
file_refusal (Some Dir) = Some WrongKind
file_refusal (Some (File octets moment)) = None

-- a file is deleted, and a directory is not
unfoldable pub delete_refusal : Table → Names → Option TreeFault
delete_refusal table path = file_refusal (node_at table path)

-- what is moved stands there, and is not the root
abbrev pub source_answer : Option Node → Names → Option TreeFault
source_answer None path = Some Absent
source_answer (Some node) [] = Some Busy
source_answer (Some node) (name ∷ names) = None

unfoldable pub source_refusal : Table → Names → Option TreeFault
source_refusal table path = source_answer (node_at table path) path

-- each path at or below `from` is within the limits once it is moved
unfoldable pub moves_fit : Table → Names → Names → Bool
moves_fit table from to = list_all (λ path. not (is_within from path) || fits (moved_path from to path)) (fin.keys table.map)

-- it is moved to where nothing is, not below itself, into a directory, and no path there grows too long
unfoldable pub target_refusal : Table → Names → Names → Option TreeFault
target_refusal table from to =
    or_else (whenever (is_some (node_at table to)) Exists)
    (or_else (whenever (is_within from to) WrongKind)
    (or_else (directory_refusal (node_at table (parent to))) (whenever (not (moves_fit table from to)) TooBig)))

unfoldable pub rename_refusal : Table → Names → Names → Option TreeFault
rename_refusal table from to = or_else (source_refusal table from) (target_refusal table from to)

-- a file may take the place of another: files stand at both paths, and the second is not the first
unfoldable pub takes_place : Table → Names → Names → Bool
takes_place table from to = is_none (file_refusal (node_at table from)) && (is_none (file_refusal (node_at table to)) && not (is_within from to))

-- a file is moved onto another
unfoldable pub onto_refusal : Table → Names → Names → Option TreeFault
onto_refusal table from to = whenever (not (takes_place table from to)) WrongKind

-- where files may be replaced so, the map without the file whose place is taken; else the map
unfoldable pub freed : (onto : Bool) → Table → Names → Names → Table
freed onto table from to = if onto && takes_place table from to then removed table to else table

-- a file is put where a file stands, or anew in a directory, within the limits of paths and nodes
abbrev pub room_answer : Option Node → Table → Names → Option TreeFault
room_answer (Some Dir) table path = Some WrongKind
room_answer (Some (File octets moment)) table path = None
room_answer None table path = or_else (place_refusal table path) (nodes_refusal table)

unfoldable pub room_refusal : Table → Names → Option TreeFault
room_refusal table path = room_answer (node_at table path) table path

-- the most octets of a file, and of all files together
abbrev pub file_limit : Table → ℕ
file_limit table = min table.limits.file most_octets

abbrev pub total_limit : Table → ℕ
total_limit table = min table.limits.total most_octets

-- the most octets that a file may have at a path: those of the file that stands there count as freed
unfoldable pub room_at : Table → Names → ℕ
room_at table path = min (file_limit table) (total_limit table - (octets_in table - length (octets_or_none table path)))

-- so many octets are too many for a file, or for all files together
abbrev pub octets_refusal : Table → Names → ℕ → Option TreeFault
octets_refusal table path count =
    or_else (whenever (not (nat_le count (file_limit table))) TooBig) (whenever (not (nat_le count (room_at table path))) Full)

unfoldable pub install_refusal : Table → Names → ℕ → Option TreeFault
install_refusal table path count = or_else (room_refusal table path) (octets_refusal table path count)

-- the first octets of a file are had where a file stands that has so many
abbrev pub front_answer : Option Node → ℕ → Option TreeFault
front_answer None count = Some Absent
front_answer (Some Dir) count = Some WrongKind
front_answer (Some (File octets moment)) count = whenever (not (nat_le count (length octets))) BadOffset

unfoldable pub front_refusal : Table → Names → ℕ → Option TreeFault
front_refusal table path count = front_answer (node_at table path) count
