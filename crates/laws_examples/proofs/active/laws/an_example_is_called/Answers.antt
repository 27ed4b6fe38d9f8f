use Rattle.laws_examples.proofs.active.CallPlayed.{call_is_over}
use Rattle.laws_examples.proofs.active.laws.an_example_is_called.Goals as goal

pub returns : goal.returns
returns c = call_is_over
