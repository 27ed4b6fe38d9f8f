use Rattle.laws_world.proofs.DoneLemmas.{done_is_whole}
use Rattle.laws_world.proofs.laws.done_is_whole.Goals as goal

pub returns : goal.returns
returns c = done_is_whole
