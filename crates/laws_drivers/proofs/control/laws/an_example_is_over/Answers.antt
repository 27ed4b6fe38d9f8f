use Rattle.laws_drivers.proofs.control.Example.{example_has_quit, example_is_over}
use Rattle.laws_drivers.proofs.control.Fair.{example_is_fair}
use Rattle.laws_drivers.proofs.control.laws.an_example_is_over.Goals as goal

pub returns : goal.returns
returns c = record { over = example_is_over; quit = example_has_quit; fair = example_is_fair }
