use Rattle.laws_sessions.proofs.either.Concluding.{either_by_counts}
use Rattle.laws_sessions.proofs.either.laws.either_by_counts.Goals as goal

pub returns : goal.returns
returns c = either_by_counts
