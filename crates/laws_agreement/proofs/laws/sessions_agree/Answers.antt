use Rattle.laws_agreement.proofs.Theorems.{agrees-always}
use Rattle.laws_agreement.proofs.laws.sessions_agree.Goals as goal

pub returns : goal.returns
returns c = agrees-always
