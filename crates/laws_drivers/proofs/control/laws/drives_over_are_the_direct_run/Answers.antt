use Rattle.laws_drivers.proofs.control.Theorems.{drives_over_are_the_direct_run}
use Rattle.laws_drivers.proofs.control.laws.drives_over_are_the_direct_run.Goals as goal

pub returns : goal.returns
returns c = drives_over_are_the_direct_run
