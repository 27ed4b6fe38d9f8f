use Rattle.laws_drivers.proofs.control.Theorems.{drives_lost_agree}
use Rattle.laws_drivers.proofs.control.laws.drives_lost_agree.Goals as goal

pub returns : goal.returns
returns c = drives_lost_agree
