use Rattle.laws_server.proofs.several.SmallLemmas.{all_stay_small}
use Rattle.laws_server.proofs.several.laws.all_stay_small.Goals as goal

pub returns : goal.returns
returns c = all_stay_small
