use Rattle.std.proofs.Common.{length, take, ◌++◌, ◌-◌, ◌≡◌, ◌≤◌}
use Rattle.ftp_mode.proofs.framer.Framer.pour_owed.Given as goal

abbrev pub invariant-loop-made : goal.invariant-loop-made
invariant-loop-made l = record {
  from : l.fn.at ≤ l.made;
  within : l.made ≤ length l.room;
  moved : take l.made l.room ++ l.self.owed.items ≡ take l.fn.at l.fn.room ++ l.fn.self.owed.items;
  stage : l.self.stage ≡ l.fn.self.stage;
  block : l.self.block.items ≡ l.fn.self.block.items;
  marks : l.self.marks ≡ l.fn.self.marks;
}

abbrev pub decreases-loop-made : goal.decreases-loop-made
decreases-loop-made l = length l.room - l.made
