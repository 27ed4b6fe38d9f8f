use Rattle.ftp_repr.proofs.RunLemmas.{run_once}
use Rattle.ftp_repr.proofs.laws.runs.Goals as goal

pub returns : goal.returns
returns c = run_once
