use Rattle.std.proofs.Common.{◌≡◌, ◌+◌, ◌-◌, ◌≤◌, [], length, take}
use Rattle.ftp_mode.specs.Deframing.{owed}
use Rattle.ftp_wire.specs.Decoder.{decoded}
use Rattle.ftp_wire.specs.Hearing.{AreQuiet}
use Rattle.ftp_wire.specs.Taking.{decoder_at}
use Rattle.ftp_wire.proofs.intake.Intake.hear.Given as goal

abbrev pub invariant-loop-at : goal.invariant-loop-at
invariant-loop-at g l = record {
  within : l.at ≤ length l.piece;
  owes : owed l.self.deframer ≡ [];
  quiet : AreQuiet (length (g.S.Sink.octets l.fn.self.sink) + l.room) (decoder_at g.S.Sink.octets l.fn.self) (take l.at l.piece);
  decoder : decoder_at g.S.Sink.octets l.self ≡ decoded (decoder_at g.S.Sink.octets l.fn.self) (take l.at l.piece);
  left : length (g.S.Sink.octets l.self.sink) + l.left ≡ length (g.S.Sink.octets l.fn.self.sink) + l.room;
}

abbrev pub decreases-loop-at : goal.decreases-loop-at
decreases-loop-at g l = length l.piece - l.at
