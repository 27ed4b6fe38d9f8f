use Rattle.laws_agreement.proofs.Theorems.{headline}
use Rattle.laws_agreement.proofs.laws.sessions_are_the_direct_run.Goals as goal

pub returns : goal.returns
returns c = headline
