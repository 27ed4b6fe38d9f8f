use Rattle.laws_sessions.proofs.passive.Transferring.{transfers_by_counts}
use Rattle.laws_sessions.proofs.passive.laws.transfers_by_counts.Goals as goal

pub returns : goal.returns
returns c = transfers_by_counts
