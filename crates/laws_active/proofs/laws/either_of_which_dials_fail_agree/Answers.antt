use Rattle.laws_active.proofs.Concluding.{tries_agree, tries_parting_agree}
use Rattle.laws_active.proofs.laws.either_of_which_dials_fail_agree.Goals as goal

pub returns : goal.returns
returns c = record { standing = tries_agree; parting = tries_parting_agree }
