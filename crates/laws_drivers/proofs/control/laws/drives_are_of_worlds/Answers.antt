use Rattle.laws_drivers.proofs.control.Simulating.{drives_are_of_worlds}
use Rattle.laws_drivers.proofs.control.laws.drives_are_of_worlds.Goals as goal

pub returns : goal.returns
returns c = drives_are_of_worlds
