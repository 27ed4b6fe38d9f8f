use Rattle.laws_active.proofs.Quitting.{either_that_quit_are_the_direct_run}
use Rattle.laws_active.proofs.laws.either_that_quit_are_the_direct_run.Goals as goal

pub returns : goal.returns
returns c = either_that_quit_are_the_direct_run
