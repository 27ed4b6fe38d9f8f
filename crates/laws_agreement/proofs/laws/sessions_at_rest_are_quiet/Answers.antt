use Rattle.laws_agreement.proofs.Theorems.{rest-is-quiet}
use Rattle.laws_agreement.proofs.laws.sessions_at_rest_are_quiet.Goals as goal

pub returns : goal.returns
returns c = rest-is-quiet
