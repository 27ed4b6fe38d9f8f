use Rattle.std.proofs.Common.{◌≡◌, ◌≤◌, ◌-◌, drop, length, take}
use Rattle.ftp_tree_memory.proofs.trees.content.Content.fill.Given as goal

-- the room so far has the octets from the place on
abbrev pub invariant-loop-done : goal.invariant-loop-done
invariant-loop-done g l =
    record {
      filled : take l.done l.room ≡ take l.done (drop l.at l.self);
      within : l.done ≤ length l.room;
    }

abbrev pub decreases-loop-done : goal.decreases-loop-done
decreases-loop-done g l = length l.room - l.done
