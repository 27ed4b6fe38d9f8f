use Rattle.laws_transfers.proofs.Trying.{transfers_are_of_worlds}
use Rattle.laws_transfers.proofs.laws.transfers_are_of_worlds.Goals as goal

pub returns : goal.returns
returns c = transfers_are_of_worlds
