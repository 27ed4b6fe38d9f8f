use Rattle.std.proofs.Common.{◌≡◌, length}
use Rattle.ftp_path.specs.Kept.{names_of}
use Rattle.ftp_tree.specs.Text.{IsPlace}
use Rattle.ftp_tree.specs.Map.{under}
use Rattle.ftp_tree_nodes.proofs.node.Node.find.Given as goal

-- what stands here by the names that are left is what is looked for
abbrev pub invariant-loop-left : goal.invariant-loop-left
invariant-loop-left g l =
    record {
      place : IsPlace l.left;
      there : under l.here (names_of l.left) ≡ under l.self (names_of l.key);
    }

abbrev pub decreases-loop-left : goal.decreases-loop-left
decreases-loop-left g l = length l.left
