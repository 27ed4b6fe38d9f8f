use Rattle.std.proofs.Common.{refl}
use Rattle.ftp_nvt.proofs.BufferLemmas.{begin_reads}
use Rattle.ftp_nvt.proofs.line.LineBuffer.begin.Goals as goal

pub returns-clause-reads : goal.returns-clause-reads
returns-clause-reads g c = begin_reads c.args.self.now _ c.requires refl refl refl c.clear.ensures.items
