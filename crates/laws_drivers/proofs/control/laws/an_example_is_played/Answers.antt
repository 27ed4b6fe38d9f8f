use Rattle.laws_drivers.proofs.control.Example.{example_is_played}
use Rattle.laws_drivers.proofs.control.laws.an_example_is_played.Goals as goal

pub returns : goal.returns
returns c = example_is_played
