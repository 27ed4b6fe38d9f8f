use Rattle.ftp_direct.proofs.RightsLemmas.{rights_come_first}
use Rattle.ftp_direct.proofs.laws.rights_come_first.Goals as goal

pub returns : goal.returns
returns c = rights_come_first
