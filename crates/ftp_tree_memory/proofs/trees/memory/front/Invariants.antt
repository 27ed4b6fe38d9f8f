use Rattle.std.proofs.Common.{◌≡◌, ◌≤◌, ◌-◌, length, take}
use Rattle.ftp_tree_memory.proofs.trees.memory.front.Given as goal

-- the front is a beginning of the content, of no more octets than are wanted
abbrev pub invariant-loop-front : goal.invariant-loop-front
invariant-loop-front g l =
    record {
      front : l.front ≡ take (length l.front) l.content;
      most : length l.front ≤ l.count;
    }

abbrev pub decreases-loop-front : goal.decreases-loop-front
decreases-loop-front g l = l.count - length l.front
