use Rattle.std.proofs.Common.{◌≡◌, ◌+◌, length}
use Rattle.ftp_mode.specs.Said.{file_signs}
use Rattle.ftp_mode.specs.Deframing.{owed, reading, last_marker}
use Rattle.ftp_wire.specs.Taking.{decoder_at, settled}
use Rattle.ftp_wire.proofs.intake.Intake.settle_ends.Given as goal

abbrev pub invariant-loop-part : goal.invariant-loop-part
invariant-loop-part g l = record {
  reading : reading l.self.deframer ≡ reading l.fn.self.deframer;
  marker : last_marker l.self.deframer ≡ last_marker l.fn.self.deframer;
  decoder : settled (decoder_at g.S.Sink.octets l.self) (file_signs (owed l.self.deframer)) ≡ settled (decoder_at g.S.Sink.octets l.fn.self) (file_signs (owed l.fn.self.deframer));
  room : length (g.S.Sink.octets l.self.sink) + l.room ≡ length (g.S.Sink.octets l.fn.self.sink) + l.fn.room;
}

abbrev pub decreases-loop-part : goal.decreases-loop-part
decreases-loop-part g l = length (owed l.self.deframer)
