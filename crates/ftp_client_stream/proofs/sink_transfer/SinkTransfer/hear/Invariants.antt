use Rattle.std.proofs.Common.{◌≡◌, length}
use Rattle.ftp_wire.specs.Decoder.{decoded}
use Rattle.ftp_client_stream.proofs.sink_transfer.SinkTransfer.hear.Given as goal

-- what was heard and what the rest says
abbrev pub invariant-loop-rest : goal.invariant-loop-rest
invariant-loop-rest g l = decoded l.self.decoder.decoder l.rest ≡ decoded l.fn.self.decoder.decoder l.piece

abbrev pub decreases-loop-rest : goal.decreases-loop-rest
decreases-loop-rest g l = length l.rest
