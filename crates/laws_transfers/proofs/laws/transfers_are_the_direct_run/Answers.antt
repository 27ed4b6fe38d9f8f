use Rattle.laws_transfers.proofs.Concluding.{transfers_are_the_direct_run}
use Rattle.laws_transfers.proofs.laws.transfers_are_the_direct_run.Goals as goal

pub returns : goal.returns
returns c = transfers_are_the_direct_run
