use Rattle.std.proofs.Common.{◌≡◌, ◌+◌, ◌-◌, ◌≤◌, length, take, drop}
use Rattle.ftp_repr.specs.Items.{signs}
use Rattle.ftp_wire.specs.Taking.{decoder_at, settled}
use Rattle.ftp_wire.proofs.intake.Intake.settle.Given as goal

abbrev pub invariant-loop-item : goal.invariant-loop-item
invariant-loop-item g l = record {
  within : length (signs l.rest) ≤ length (signs l.item);
  rest : signs l.rest ≡ drop (length (signs l.item) - length (signs l.rest)) (signs l.item);
  deframer : l.self.deframer ≡ l.fn.self.deframer;
  decoder : decoder_at g.S.Sink.octets l.self ≡ settled (decoder_at g.S.Sink.octets l.fn.self) (take (length (signs l.item) - length (signs l.rest)) (signs l.item));
  room : length (g.S.Sink.octets l.self.sink) + l.room ≡ length (g.S.Sink.octets l.fn.self.sink) + l.fn.room;
}

abbrev pub decreases-loop-item : goal.decreases-loop-item
decreases-loop-item g l = length (signs l.rest)
