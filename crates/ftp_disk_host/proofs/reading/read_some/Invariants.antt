use Rattle.std.specs.Io.KnownBytes.{Keeps}
use Rattle.ftp_disk_host.proofs.reading.read_some.Given as goal

-- where no reading went well, nothing was given
abbrev pub invariant-loop : goal.invariant-loop
invariant-loop g l = Keeps (g.F.Read.remaining l.fn.file) (g.F.Read.remaining l.file)
