use Rattle.ftp_direct.proofs.RightsLemmas.{lookers_change_nothing}
use Rattle.ftp_direct.proofs.laws.lookers_change_nothing.Goals as goal

pub returns : goal.returns
returns c = lookers_change_nothing
