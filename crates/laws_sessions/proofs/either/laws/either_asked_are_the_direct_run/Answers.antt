use Rattle.laws_sessions.proofs.either.Concluding.{either_asked_are_the_direct_run}
use Rattle.laws_sessions.proofs.either.laws.either_asked_are_the_direct_run.Goals as goal

pub returns : goal.returns
returns c = either_asked_are_the_direct_run
