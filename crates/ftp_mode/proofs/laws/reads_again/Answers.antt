use Rattle.ftp_mode.proofs.LawLemmas.{reads_wire, reads_behind, marked_reads}
use Rattle.ftp_mode.proofs.laws.reads_again.Goals as goal

pub returns-clause-plain : goal.returns-clause-plain
returns-clause-plain c = reads_wire

pub returns-clause-behind : goal.returns-clause-behind
returns-clause-behind c = reads_behind

pub returns-clause-marked : goal.returns-clause-marked
returns-clause-marked c = marked_reads
