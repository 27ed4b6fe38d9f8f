use Rattle.laws_examples.proofs.transfers.PeekPlayed.{peek_has_quit, peek_is_over}
use Rattle.laws_examples.proofs.transfers.laws.an_example_is_peeked_into.Goals as goal

pub returns : goal.returns
returns c = record { over = peek_is_over; quit = peek_has_quit }
