use Rattle.std.specs.Io.KnownBytes.{Keeps}
use Rattle.ftp_client_stream.proofs.reader_source.read_some.Given as goal

-- a read that was interrupted took nothing
abbrev pub invariant-loop : goal.invariant-loop
invariant-loop g l = Keeps (g.R.Read.remaining l.fn.reader) (g.R.Read.remaining l.reader)
