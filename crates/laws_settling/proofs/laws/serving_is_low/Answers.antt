use Rattle.laws_settling.proofs.Served.{serving_is_low}
use Rattle.laws_settling.proofs.laws.serving_is_low.Goals as goal

pub returns : goal.returns
returns c = serving_is_low
