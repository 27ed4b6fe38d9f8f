use Rattle.laws_drivers.proofs.control.Theorems.{drives_agree, parting_agrees}
use Rattle.laws_drivers.proofs.control.laws.drives_agree.Goals as goal

pub returns : goal.returns
returns c = record { standing = drives_agree; parting = parting_agrees }
