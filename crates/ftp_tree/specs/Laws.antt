-- What the definitions of a tree say of single paths.
use Rattle.std.specs.Prelude.{◌≡◌, ◌↔◌, ℕ, ◌+◌, ◌<◌, ◌≤◌, false, true, List, [], ◌∷◌, ◌++◌, length, None, Some, IsSome}
use Rattle.std.specs.Cmp.Lexicographic.{slice_cmp}
use Rattle.std.specs.List.{Contains, slice_get}
use Rattle.std.specs.Ordering.{nat_cmp}
use Rattle.std.specs.declared.cmp.Ordering.TheVariants.{Less}
use Rattle.ftp_path.specs.Path.{Names, is_within}
use Rattle.ftp_tree.specs.Map.{Dir}
use Rattle.ftp_tree.specs.Tree.{Table, node_at, under, with_part, moved, freed, children, root_alone, made, removed, installed, octets_or_none, octets_in, default_limits, IsTree, make_refusal, delete_refusal, remove_refusal, rename_refusal, onto_refusal, install_refusal}
use Rattle.std.specs.FinMap as fin

-- what stands below a path
abbrev pub UnderStandsBelow : Type 0
UnderStandsBelow = (table : Table) (root path : Names) → node_at (under table root) path ≡ node_at table (root ++ path)

-- a part that is put at a path stands there, what stood there is gone, no other path changes, and the part can be taken again
pub record PutsPart (table : Table) (root : Names) (part : Table) : Type 0 where
  pub comes : (path : Names) → node_at (with_part table root part) (root ++ path) ≡ node_at part path
  pub stays : (path : Names) → is_within root path ≡ false → node_at (with_part table root part) path ≡ node_at table path
  pub taken : under (with_part table root part) root ≡ part

abbrev pub PartsArePut : Type 0
PartsArePut = (table : Table) (root : Names) (part : Table) → PutsPart table root part

-- a part that is taken can be put back, and below the root all is the part
pub record PartsComeBack : Type 0 where
  pub back : (table : Table) (root : Names) → with_part table root (under table root) ≡ table
  pub all : (table : Table) → under table [] ≡ table
  pub whole : (table part : Table) → with_part table [] part ≡ part

-- the part below a directory of a tree is a tree, and a tree in its place leaves a tree
pub record PartsAreTrees : Type 0 where
  pub taking : (table : Table) (root : Names) → IsTree table → node_at table root ≡ Some Dir → IsTree (under table root)
  pub putting : (table : Table) (root : Names) (part : Table) → IsTree table → node_at table root ≡ Some Dir → IsTree part → IsTree (with_part table root part)

-- all at or below a path goes to another, what stood there is gone, and no other path changes
pub record MovesAll (old new : Table) (from to : Names) : Type 0 where
  pub comes : (rest : Names) → node_at new (to ++ rest) ≡ node_at old (from ++ rest)
  pub goes : (path : Names) → is_within from path ≡ true → is_within to path ≡ false → node_at new path ≡ None
  pub stays : (path : Names) → is_within from path ≡ false → is_within to path ≡ false → node_at new path ≡ node_at old path

abbrev pub RenameMovesAll : Type 0
RenameMovesAll = (table : Table) (from to : Names) → IsTree table → rename_refusal table from to ≡ None → MovesAll table (moved table from to) from to

-- a file that is moved onto another stands there then, no longer where it was, and no other path changes
abbrev pub OntoMovesAll : Type 0
OntoMovesAll = (table : Table) (from to : Names) → IsTree table → onto_refusal table from to ≡ None
    → MovesAll table (moved (freed true table from to) from to) from to

-- the names in a directory are those by which something stands directly in it
abbrev pub ChildrenStand : Type 0
ChildrenStand = (table : Table) (path : Names) (name : List ℕ) → Contains (children table path) name ↔ IsSome (node_at table (path ++ name ∷ []))

-- the names in a directory come in the order of their octets, each once
abbrev pub NamesRise : Type 0
NamesRise = (table : Table) (path : Names) (place later : ℕ) (name other : List ℕ) → place < later
    → slice_get (children table path) place ≡ Some name → slice_get (children table path) later ≡ Some other → slice_cmp nat_cmp name other ≡ Less

-- a map within some limits: of the octets of a file, of the nodes beside the root, of the octets of all files together
pub record KeepsLimits (octets nodes all : ℕ) (table : Table) : Type 0 where
  pub files : (path : Names) → length (octets_or_none table path) ≤ octets
  pub counted : fin.len table.map ≤ nodes + 1
  pub together : octets_in table ≤ all

-- every map within the limits of before (a file's 16,777,216 octets, 4,096 nodes) is within the default limits
abbrev pub OldMapsAreNew : Type 0
OldMapsAreNew = (table : Table) → KeepsLimits 16777216 4096 67108864 table → KeepsLimits default_limits.file default_limits.nodes default_limits.total table

-- the root is a directory and so is the parent of each path, at first and after each change that is not refused
pub record ChangesKeepTrees : Type 0 where
  pub alone : IsTree root_alone
  pub making : (table : Table) (path : Names) → IsTree table → make_refusal table path ≡ None → IsTree (made table path)
  pub removing : (table : Table) (path : Names) → IsTree table → remove_refusal table path ≡ None → IsTree (removed table path)
  pub deleting : (table : Table) (path : Names) → IsTree table → delete_refusal table path ≡ None → IsTree (removed table path)
  pub moving : (table : Table) (from to : Names) → IsTree table → rename_refusal table from to ≡ None → IsTree (moved table from to)
  pub replacing : (table : Table) (from to : Names) → IsTree table → onto_refusal table from to ≡ None → IsTree (moved (freed true table from to) from to)
  pub installing : (table : Table) (path : Names) (octets : List ℕ) (moment : ℕ) → IsTree table → install_refusal table path (length octets) ≡ None → IsTree (installed table path octets moment)
