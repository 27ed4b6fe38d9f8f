use Rattle.laws_sessions.proofs.passive.Example.{example_is_asked}
use Rattle.laws_sessions.proofs.passive.laws.an_example_is_asked.Goals as goal

pub returns : goal.returns
returns c = example_is_asked
