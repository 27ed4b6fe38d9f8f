use Rattle.laws_agreement.proofs.Theorems.{quiet-is-answered}
use Rattle.laws_agreement.proofs.laws.sessions_are_answered.Goals as goal

pub returns : goal.returns
returns c = quiet-is-answered
