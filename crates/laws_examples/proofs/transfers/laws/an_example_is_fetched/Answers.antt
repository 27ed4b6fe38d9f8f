use Rattle.laws_examples.proofs.transfers.FetchPlayed.{fetch_has_quit, fetch_is_over}
use Rattle.laws_examples.proofs.transfers.laws.an_example_is_fetched.Goals as goal

pub returns : goal.returns
returns c = record { over = fetch_is_over; quit = fetch_has_quit }
