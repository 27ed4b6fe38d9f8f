use Rattle.laws_world.proofs.HonestLemmas.{headline_follows}
use Rattle.laws_world.proofs.laws.headline_follows_from_agreement.Goals as goal

pub returns : goal.returns
returns c = headline_follows
