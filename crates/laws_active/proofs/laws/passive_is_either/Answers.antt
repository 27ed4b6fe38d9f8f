use Rattle.laws_active.proofs.Passive.{passive_is_either}
use Rattle.laws_active.proofs.laws.passive_is_either.Goals as goal

pub returns : goal.returns
returns c = passive_is_either
