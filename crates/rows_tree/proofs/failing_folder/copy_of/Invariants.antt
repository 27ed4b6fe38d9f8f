use Rattle.std.proofs.Common.{◌≡◌, ◌-◌, length, take}
use Rattle.rows_tree.proofs.failing_folder.copy_of.Given as goal

-- the copy is a beginning of the content
abbrev pub invariant-loop-copy : goal.invariant-loop-copy
invariant-loop-copy g l =
    record {
      front : l.copy ≡ take (length l.copy) l.content;
    }

abbrev pub decreases-loop-copy : goal.decreases-loop-copy
decreases-loop-copy g l = length l.content - length l.copy
