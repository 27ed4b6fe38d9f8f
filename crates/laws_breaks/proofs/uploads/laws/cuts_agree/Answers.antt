use Rattle.laws_breaks.proofs.uploads.Concluding.{cuts_agree, cuts_parting_agree}
use Rattle.laws_breaks.proofs.uploads.laws.cuts_agree.Goals as goal

pub returns : goal.returns
returns c = record { standing = cuts_agree; parting = cuts_parting_agree }
