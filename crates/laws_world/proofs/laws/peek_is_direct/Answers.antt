use Rattle.laws_world.proofs.AgreementLemmas.{peek_is_direct}
use Rattle.laws_world.proofs.laws.peek_is_direct.Goals as goal

pub returns : goal.returns
returns c = peek_is_direct
