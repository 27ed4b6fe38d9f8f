use Rattle.laws_transfers.proofs.Quitting.{transfers_that_quit_are_the_direct_run}
use Rattle.laws_transfers.proofs.laws.transfers_that_quit_are_the_direct_run.Goals as goal

pub returns : goal.returns
returns c = transfers_that_quit_are_the_direct_run
