use Rattle.laws_active.proofs.Reaching.{either_are_of_worlds}
use Rattle.laws_active.proofs.laws.either_are_of_worlds.Goals as goal

pub returns : goal.returns
returns c = either_are_of_worlds
