use Rattle.laws_transfers.proofs.Concluding.{transfers_agree, transfers_parting_agree}
use Rattle.laws_transfers.proofs.laws.transfers_agree.Goals as goal

pub returns : goal.returns
returns c = record { standing = transfers_agree; parting = transfers_parting_agree }
