use Rattle.laws_world.proofs.AgreementLemmas.{unmarked_is_direct}
use Rattle.laws_world.proofs.laws.unmarked_agreement_is_the_direct_run.Goals as goal

pub returns : goal.returns
returns c = unmarked_is_direct
