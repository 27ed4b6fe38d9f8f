use Rattle.tool_scheduler.proofs.RoundLemmas.{rounds_more}
use Rattle.tool_scheduler.proofs.SharingLemmas.{served_more}
use Rattle.tool_scheduler.proofs.rounds.serve_rounds.Goals as goal

pub loop-preserved : goal.loop-preserved
loop-preserved g c = record {
  goes = rounds_more _ _ _ _ _ _ c.loop.invariant.goes c.round.ensures.goes;
  shares = served_more _ _ _ _ _ _ c.loop.invariant.shares c.round.ensures.shares;
}
