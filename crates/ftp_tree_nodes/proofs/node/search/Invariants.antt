use Rattle.std.proofs.Common.{◌-◌, ◌≤◌, length}
use Rattle.ftp_tree_nodes.specs.Branch.{parts}
use Rattle.ftp_tree_nodes.proofs.NameLemmas.{AllBefore, AllBehind}
use Rattle.ftp_tree_nodes.proofs.node.search.Given as goal

-- what comes before the part that is left, and what behind
abbrev pub invariant-loop-low : goal.invariant-loop-low
invariant-loop-low g l =
    record {
      upright : l.low ≤ l.high;
      inside : l.high ≤ length l.children;
      before : AllBefore (parts l.children) l.name l.low;
      behind : AllBehind (parts l.children) l.name l.high;
    }

abbrev pub decreases-loop-low : goal.decreases-loop-low
decreases-loop-low g l = l.high - l.low
