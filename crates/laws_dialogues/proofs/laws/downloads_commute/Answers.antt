use Rattle.laws_dialogues.proofs.Commuting.{downloads-commute}
use Rattle.laws_dialogues.proofs.laws.downloads_commute.Goals as goal

pub returns : goal.returns
returns c = downloads-commute
