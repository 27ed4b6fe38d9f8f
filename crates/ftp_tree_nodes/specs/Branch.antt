-- A node as it is kept: a file, or a directory with what stands below each name in it, in the order of the names' octets.
use Rattle.std.specs.Prelude.{◌≡◌, ℕ, zero, suc, List, [], ◌∷◌, map, IsTrue, Box, Option, is_some}
use Rattle.std.specs.Cmp.Lexicographic.{slice_cmp}
use Rattle.std.specs.FinMap.{is_sorted}
use Rattle.std.specs.List.{flat_map, list_all}
use Rattle.std.specs.Option.{unwrap_or}
use Rattle.std.specs.Ordering.{nat_cmp}
use Rattle.std.specs.declared.cmp.Ordering.{Ordering}
use Rattle.std.specs.declared.cmp.Ordering.TheVariants.{Less, Greater}
use Rattle.ftp_path.specs.Path.{is_name}
use Rattle.ftp_tree.specs.Map.{File, Map, node_at, octets_in}
use Rattle.ftp_tree.specs.Rows.{Rows, is_in_order, table_of}
use Rattle.ftp_tree_nodes.specs.declared.node.Branch.{Branch}
use Rattle.ftp_tree_nodes.specs.declared.node.Child.{Child}
use Rattle.std.specs.FinMap as fin
use Rattle.ftp_tree_nodes.specs.declared.node.Branch.TheVariants as branch

-- names in the order of their octets
abbrev pub name_cmp : List ℕ → List ℕ → Ordering
name_cmp = slice_cmp nat_cmp

-- a name in a directory, and the map of what stands there and below
abbrev pub NamedMap : Type 0
NamedMap = List ℕ × Map

-- the paths of a part from the directory on
abbrev pub behind : NamedMap → Rows
behind part = map (λ entry. (part.0 ∷ entry.0, entry.1)) (fin.entries part.1)

abbrev pub part_rows : List NamedMap → Rows
part_rows = flat_map behind

-- the map of a directory
abbrev pub parts_table : List NamedMap → Map
parts_table parts = table_of (part_rows parts)

-- the map of a file
abbrev pub file_alone : List ℕ → ℕ → Map
file_alone octets moment = fin.insert fin.empty [] (File octets moment)

abbrev pub part_of_child : {A C : Type 0} → Box (Child A C) A → NamedMap
part_of_child child = (child.value.name, child.value.node)

abbrev pub parts : {A C : Type 0} → List (Box (Child A C) A) → List NamedMap
parts = map part_of_child

-- the map of a node, by what octets a file holds
abbrev pub branch_table : {A C : Type 0} → (C → List ℕ) → Branch A C → Map
branch_table octets (branch.File content moment) = file_alone (octets content) moment.seconds
branch_table octets (branch.Dir children count) = parts_table (parts children.items)

-- the names rise and are names, and the two counts are those of the map
pub record IsDirectory (parts : List NamedMap) (nodes octets : ℕ) : Type 0 where
  pub sorted : IsTrue (is_sorted name_cmp parts)
  pub rows : IsTrue (is_in_order (part_rows parts))
  pub named : IsTrue (list_all (λ part. is_name part.0) parts)
  pub standing : IsTrue (list_all (λ part. is_some (node_at part.1 [])) parts)
  pub counted : nodes ≡ fin.len (parts_table parts)
  pub summed : octets ≡ octets_in (parts_table parts)

abbrev pub IsBranch : {A C : Type 0} → Branch A C → Type 0
IsBranch (branch.File content moment) = Unit {0}
IsBranch (branch.Dir children count) = IsDirectory (parts children.items) count.nodes count.octets

-- what is found, or nothing at all
abbrev pub found : Option Map → Map
found part = unwrap_or part fin.empty

-- ---- where a name stands

-- the name stands at a place, and those before it come before
abbrev pub NameStandsAt : List NamedMap → List ℕ → ℕ → Type 0
NameStandsAt [] name at = ⊥
NameStandsAt (first ∷ others) name zero = first.0 ≡ name
NameStandsAt (first ∷ others) name (suc at) = (name_cmp first.0 name ≡ Less) × NameStandsAt others name at

-- the name would go there: those before it come before, and the next one after it
abbrev pub HasGap : List NamedMap → List ℕ → ℕ → Type 0
HasGap [] name zero = Unit {0}
HasGap [] name (suc at) = ⊥
HasGap (first ∷ others) name zero = name_cmp first.0 name ≡ Greater
HasGap (first ∷ others) name (suc at) = (name_cmp first.0 name ≡ Less) × HasGap others name at
