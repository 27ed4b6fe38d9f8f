use Rattle.std.proofs.Common.{◌≡◌, true, take}
use Rattle.ftp_tree.specs.Text.{is_within_room}
use Rattle.ftp_tree_nodes.specs.Branch.{parts}
use Rattle.ftp_tree_nodes.proofs.BranchLemmas.{all-parts}
use Rattle.ftp_tree_nodes.proofs.node.Node.+fits.Given as goal

-- each path behind a name so far
abbrev pub invariant-loop-child : goal.invariant-loop-child
invariant-loop-child g l = all-parts (is_within_room l.room) (parts (take l.child-index l.child-items)) ≡ true
