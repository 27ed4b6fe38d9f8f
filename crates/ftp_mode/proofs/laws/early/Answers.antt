use Rattle.ftp_mode.proofs.ExactLemmas.{early_reads, early_faults, neither_early}
use Rattle.ftp_mode.proofs.laws.early.Goals as goal

pub returns : goal.returns
returns c = λ m s w fits. (λ e. (λ said. early_reads m s w said e, λ fault. early_faults m s w fault fits e), λ no. neither_early m s w no.0 no.1)
