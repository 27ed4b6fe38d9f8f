use Rattle.laws_sessions.proofs.passive.Concluding.{sessions_are_the_direct_run}
use Rattle.laws_sessions.proofs.passive.laws.sessions_are_the_direct_run.Goals as goal

pub returns : goal.returns
returns c = sessions_are_the_direct_run
