use Rattle.std.proofs.Common.{◌≡◌, ◌≤◌, ◌-◌, ◌++◌, length, take, drop}
use Rattle.ftp_mode.specs.Block.{block_text}
use Rattle.ftp_mode.proofs.framer.Framer.copy_header.Given as goal

abbrev pub invariant-loop-made : goal.invariant-loop-made
invariant-loop-made l = record {
  from : l.fn.at ≤ l.made;
  within : l.made ≤ length l.room;
  copied : take l.made l.room ++ drop l.next (block_text l.descriptor l.self.block.items)
      ≡ take l.fn.at l.fn.room ++ drop l.fn.place (block_text l.descriptor l.self.block.items);
}

abbrev pub decreases-loop-made : goal.decreases-loop-made
decreases-loop-made l = length l.room - l.made
