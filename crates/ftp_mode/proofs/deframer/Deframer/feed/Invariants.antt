use Rattle.std.proofs.Common.{length, take, ◌-◌, ◌≡◌, ◌≤◌, []}
use Rattle.ftp_mode.specs.Reading.{IsGoing}
use Rattle.ftp_mode.specs.Deframing.{reading, owed, MovesReading}
use Rattle.ftp_mode.proofs.deframer.Deframer.feed.Given as goal

abbrev pub invariant-loop-at : goal.invariant-loop-at
invariant-loop-at l = record {
  within : l.at ≤ length l.piece;
  quiet : MovesReading (reading l.fn.self) (reading l.self) (take l.at l.piece) [];
  owes : owed l.self ≡ [];
  fine : IsGoing (reading l.self);
  owed_before : owed l.fn.self ≡ [];
}

abbrev pub decreases-loop-at : goal.decreases-loop-at
decreases-loop-at l = length l.piece - l.at
