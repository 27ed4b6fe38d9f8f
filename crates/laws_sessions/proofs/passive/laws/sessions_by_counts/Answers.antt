use Rattle.laws_sessions.proofs.passive.Concluding.{sessions_by_counts}
use Rattle.laws_sessions.proofs.passive.laws.sessions_by_counts.Goals as goal

pub returns : goal.returns
returns c = sessions_by_counts
