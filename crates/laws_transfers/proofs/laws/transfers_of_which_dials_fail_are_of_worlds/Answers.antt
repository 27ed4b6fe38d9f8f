use Rattle.laws_transfers.proofs.Reaching.{tries_are_of_worlds}
use Rattle.laws_transfers.proofs.laws.transfers_of_which_dials_fail_are_of_worlds.Goals as goal

pub returns : goal.returns
returns c = tries_are_of_worlds
