use Rattle.std.proofs.Common.{arith}
use Rattle.tool_scheduler.proofs.RoundLemmas.{left_all, left_more, left_none}
use Rattle.tool_scheduler.proofs.waiting.unset.Goals as goal

pub loop-other-init : goal.loop-other-init
loop-other-init c = left_none _ _

pub loop-other-preserved : goal.loop-other-preserved
loop-other-preserved c = left_more _ _ _ _ _ (omega arith) c.loop-other.invariant (c.is_other.ensures)

pub returns : goal.returns
returns c = left_all _ _ _ _ (omega arith) c.loop-other.invariant
