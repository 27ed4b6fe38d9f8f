use Rattle.std.proofs.Common.{◌≡◌, ◌++◌, ◌-◌, ◌≤◌, drop, length}
use Rattle.ftp_tree_memory.proofs.trees.content.Content.push_all.Given as goal

abbrev pub invariant-loop-at : goal.invariant-loop-at
invariant-loop-at g l =
    record {
      gathered : l.self ++ drop l.at l.more ≡ l.fn.self ++ l.more;
      within : l.at ≤ length l.more;
    }

abbrev pub decreases-loop-at : goal.decreases-loop-at
decreases-loop-at g l = length l.more - l.at
