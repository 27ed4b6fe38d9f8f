use Rattle.laws_breaks.proofs.uploads.OfWorlds.{cuts_are_of_worlds}
use Rattle.laws_breaks.proofs.uploads.laws.cuts_are_of_worlds.Goals as goal

pub returns : goal.returns
returns c = cuts_are_of_worlds
