use Rattle.ftp_ports.proofs.Fronts.{Keeps-then-Consumes}
use Rattle.ftp_ports.proofs.pieces.get.Goals as goal

pub returns-in-Ok-clause-ok : goal.returns-in-Ok-clause-ok
returns-in-Ok-clause-ok g c = Keeps-then-Consumes _ _ _ _ c.loop.invariant c.in-Ok.ensures.bytes.0
