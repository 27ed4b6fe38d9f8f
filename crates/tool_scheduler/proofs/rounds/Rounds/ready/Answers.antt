use Rattle.tool_scheduler.proofs.RoundLemmas.{taken_none, taken_set}
use Rattle.tool_scheduler.proofs.rounds.Rounds.ready.Goals as goal

pub loop-place-init : goal.loop-place-init
loop-place-init g c = taken_none 64 _

pub loop-place-preserved : goal.loop-place-preserved
loop-place-preserved g c = taken_set _ _ _ _ c.loop-place.invariant c.is_ready.ensures
