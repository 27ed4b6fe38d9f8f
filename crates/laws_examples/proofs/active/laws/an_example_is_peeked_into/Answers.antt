use Rattle.laws_examples.proofs.active.PeekPlayed.{call_is_peek}
use Rattle.laws_examples.proofs.active.laws.an_example_is_peeked_into.Goals as goal

pub returns : goal.returns
returns c = call_is_peek
