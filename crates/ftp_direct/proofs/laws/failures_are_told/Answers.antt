use Rattle.ftp_direct.proofs.FaultLemmas.{all_told}
use Rattle.ftp_direct.proofs.laws.failures_are_told.Goals as goal

pub returns : goal.returns
returns c = all_told
