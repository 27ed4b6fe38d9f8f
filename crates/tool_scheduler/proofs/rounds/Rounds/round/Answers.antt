use Rattle.tool_scheduler.proofs.RoundLemmas.{goes_spares}
use Rattle.tool_scheduler.proofs.SharingLemmas.{shares_then}
use Rattle.tool_scheduler.proofs.rounds.Rounds.round.Goals as goal

pub returns-clause-goes : goal.returns-clause-goes
returns-clause-goes g c = λ old done is. goes_spares _ _ _ old _ (c.turns.ensures.goes old done is) c.welcome_all.ensures.spares

pub returns-clause-shares : goal.returns-clause-shares
returns-clause-shares g c = shares_then _ _ _ _ c.turns.ensures.shares c.welcome_all.ensures.shares
