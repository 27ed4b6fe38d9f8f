use Rattle.tool_scheduler.specs.Order.{is_let}
use Rattle.tool_scheduler.proofs.RoundLemmas.{Left}
use Rattle.tool_scheduler.proofs.waiting.leave_first.Given as goal

-- below a place those alone are left that may have a turn
abbrev pub invariant-loop-other : goal.invariant-loop-other
invariant-loop-other l = Left (is_let l.hashing l.first) l.fn.ready l.ready l.other
