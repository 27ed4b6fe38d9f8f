use Rattle.laws_drivers.proofs.control.Concluding.{ends_keep_the_map}
use Rattle.laws_drivers.proofs.control.Theorems.{drives_are_the_direct_run}
use Rattle.laws_drivers.proofs.control.laws.drives_are_the_direct_run.Goals as goal

pub returns : goal.returns
returns c = record { direct = drives_are_the_direct_run; ends = ends_keep_the_map }
