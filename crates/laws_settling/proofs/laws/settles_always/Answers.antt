use Rattle.laws_settling.proofs.Settles.{settles_always}
use Rattle.laws_settling.proofs.laws.settles_always.Goals as goal

pub returns : goal.returns
returns c = settles_always
