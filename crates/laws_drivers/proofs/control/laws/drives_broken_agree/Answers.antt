use Rattle.laws_drivers.proofs.control.Theorems.{drives_broken_agree}
use Rattle.laws_drivers.proofs.control.laws.drives_broken_agree.Goals as goal

pub returns : goal.returns
returns c = drives_broken_agree
