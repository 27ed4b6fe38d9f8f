use Rattle.laws_breaks.proofs.downloads.Suffering.{breaks_are_of_worlds}
use Rattle.laws_breaks.proofs.downloads.laws.breaks_are_of_worlds.Goals as goal

pub returns : goal.returns
returns c = breaks_are_of_worlds
