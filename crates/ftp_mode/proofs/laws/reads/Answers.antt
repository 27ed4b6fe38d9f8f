use Rattle.ftp_mode.proofs.ExactLemmas.{reads_to, to_reads}
use Rattle.ftp_mode.proofs.laws.reads.Goals as goal

pub returns : goal.returns
returns c = λ m s w said fits. (reads_to m s w said, to_reads m s w said fits)
