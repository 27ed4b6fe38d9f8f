use Rattle.laws_server.proofs.several.LentLemmas.{others_overtake}
use Rattle.laws_server.proofs.several.laws.others_overtake.Goals as goal

pub returns : goal.returns
returns c = others_overtake
