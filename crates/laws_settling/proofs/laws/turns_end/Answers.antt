use Rattle.laws_settling.proofs.Ending.{steady_ends}
use Rattle.laws_settling.proofs.Heights.{has_height}
use Rattle.laws_settling.proofs.Looping.{loops_end}
use Rattle.laws_settling.proofs.laws.turns_end.Goals as goal

pub returns-clause-steady : goal.returns-clause-steady
returns-clause-steady c = steady_ends

pub returns-clause-height : goal.returns-clause-height
returns-clause-height c = has_height

pub returns-clause-looping : goal.returns-clause-looping
returns-clause-looping c = loops_end
