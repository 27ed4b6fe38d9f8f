use Rattle.laws_sessions.proofs.passive.Happening.{went_happens}
use Rattle.laws_sessions.proofs.passive.laws.went_happens.Goals as goal

pub returns : goal.returns
returns c = went_happens
