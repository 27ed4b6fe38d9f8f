use Rattle.std.proofs.Common.{◌≡◌, length}
use Rattle.ftp_mode.specs.Deframing.{owed, last_marker}
use Rattle.ftp_wire.specs.Taking.{decoder_at}
use Rattle.ftp_wire.proofs.intake.Intake.forget_ends.Given as goal

abbrev pub invariant-loop-end : goal.invariant-loop-end
invariant-loop-end g l = record {
  decoder : decoder_at g.S.Sink.octets l.self ≡ decoder_at g.S.Sink.octets l.fn.self;
  marker : last_marker l.self.deframer ≡ last_marker l.fn.self.deframer;
}

abbrev pub decreases-loop-end : goal.decreases-loop-end
decreases-loop-end g l = length (owed l.self.deframer)
