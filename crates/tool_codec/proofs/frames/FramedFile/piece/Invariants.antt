use Rattle.std.proofs.Common.{◌-◌, ◌≤◌, length, drop}
use Rattle.tool_codec.specs.Sending.{Gives}
use Rattle.tool_codec.proofs.frames.FramedFile.piece.Given as goal

abbrev pub invariant-loop-at : goal.invariant-loop-at
invariant-loop-at g l = record {
  within : l.at ≤ length l.piece;
  gives : Gives l.fn.self l.piece l.self (drop l.at l.piece);
}

abbrev pub decreases-loop-at : goal.decreases-loop-at
decreases-loop-at g l = length l.initial.piece - l.at
