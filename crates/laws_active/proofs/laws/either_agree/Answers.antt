use Rattle.laws_active.proofs.Concluding.{either_agree, either_parting_agree}
use Rattle.laws_active.proofs.laws.either_agree.Goals as goal

pub returns : goal.returns
returns c = record { standing = either_agree; parting = either_parting_agree }
