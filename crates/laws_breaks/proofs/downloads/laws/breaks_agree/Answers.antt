use Rattle.laws_breaks.proofs.downloads.Concluding.{breaks_agree, breaks_parting_agree}
use Rattle.laws_breaks.proofs.downloads.laws.breaks_agree.Goals as goal

pub returns : goal.returns
returns c = record { standing = breaks_agree; parting = breaks_parting_agree }
