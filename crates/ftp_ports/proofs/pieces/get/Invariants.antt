use Rattle.std.specs.Io.KnownBytes.{Keeps}
use Rattle.ftp_ports.proofs.pieces.get.Given as goal

abbrev pub invariant-loop : goal.invariant-loop
invariant-loop g l =
    let remaining = g.R.Read.remaining in
    Keeps (remaining l.fn.reader) (remaining l.reader)
