use Rattle.laws_sessions.proofs.passive.Transferring.{transfers_asked_are_the_direct_run}
use Rattle.laws_sessions.proofs.passive.laws.transfers_asked_are_the_direct_run.Goals as goal

pub returns : goal.returns
returns c = transfers_asked_are_the_direct_run
