use Rattle.std.proofs.Common.{◌≡◌, map, take}
use Rattle.ftp_tree_nodes.specs.Branch.{parts}
use Rattle.ftp_tree_nodes.specs.Store.{shown_part}
use Rattle.ftp_tree_nodes.proofs.node.entries_of.Given as goal

-- the entries so far are those of the children so far
abbrev pub invariant-loop-child : goal.invariant-loop-child
invariant-loop-child g l = l.entries ≡ map shown_part (parts (take l.child-index l.children))
