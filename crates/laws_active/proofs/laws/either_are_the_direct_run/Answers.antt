use Rattle.laws_active.proofs.Concluding.{either_are_the_direct_run}
use Rattle.laws_active.proofs.laws.either_are_the_direct_run.Goals as goal

pub returns : goal.returns
returns c = either_are_the_direct_run
