use Rattle.laws_world.proofs.TriesLemmas.{tries_are_few}
use Rattle.laws_world.proofs.laws.tries_are_few.Goals as goal

pub returns : goal.returns
returns c = tries_are_few
