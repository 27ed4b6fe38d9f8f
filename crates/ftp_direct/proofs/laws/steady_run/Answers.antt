use Rattle.ftp_direct.proofs.RunLemmas.{steady}
use Rattle.ftp_direct.proofs.laws.steady_run.Goals as goal

pub returns : goal.returns
returns c = steady
