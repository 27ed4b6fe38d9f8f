use Rattle.laws_settling.proofs.Steady.{settling_falls}
use Rattle.laws_settling.proofs.laws.settling_falls.Goals as goal

pub returns : goal.returns
returns c = settling_falls
