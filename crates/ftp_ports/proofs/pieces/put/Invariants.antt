use Rattle.std.proofs.Common.{◌≤◌, length, take}
use Rattle.std.specs.Io.KnownBytes.{Appends}
use Rattle.ftp_ports.proofs.pieces.put.Given as goal

abbrev pub invariant-loop : goal.invariant-loop
invariant-loop g l =
    let contents = g.W.Write.contents in
    (l.at ≤ length l.octets) × Appends (contents l.fn.writer) (contents l.writer) (take l.at l.octets)
