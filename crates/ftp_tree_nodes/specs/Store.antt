-- What nodes lend and show, and what a cut takes away.
use Rattle.std.specs.Prelude.{ℕ, List, [], ◌∷◌, ◌++◌, Option}
use Rattle.ftp_tree.specs.Map.{Node, Dir, File, node_at, of_node, shown_of, with_part}
use Rattle.ftp_path.specs.Path.{Names}
use Rattle.ftp_tree.specs.Tree.{Table}
use Rattle.std.specs.FinMap as fin
use Rattle.ftp_tree_nodes.specs.Branch.{NamedMap}
use Rattle.ftp_tree_nodes.specs.declared.node.Standing.{Standing}
use Rattle.ftp_tree_nodes.specs.declared.node.Standing.TheVariants as standing

-- what stands at a path, as it is lent
abbrev pub standing_node : {C : Type 0} → (C → List ℕ) → Standing C → Node
standing_node octets standing.Dir = Dir
standing_node octets (standing.File content moment) = File (octets content.now) moment.seconds

-- what a directory shows of a part of it
abbrev pub shown_part : NamedMap → List ℕ × Option (ℕ × ℕ)
shown_part part = (part.0, of_node shown_of (node_at part.1 []))

-- without what stood at a path below a root, and below that path; the root stays
abbrev pub cut_at : Table → (root path : Names) → Table
cut_at table root [] = table
cut_at table root (name ∷ names) = record table { map = with_part table.map (root ++ name ∷ names) fin.empty }
