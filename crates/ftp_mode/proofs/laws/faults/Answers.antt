use Rattle.ftp_mode.proofs.ExactLemmas.{fault_fails, fails_fault}
use Rattle.ftp_mode.proofs.laws.faults.Goals as goal

pub returns : goal.returns
returns c = λ m s w fault fits. (fault_fails m s w fault fits, fails_fault m s w fault fits)
