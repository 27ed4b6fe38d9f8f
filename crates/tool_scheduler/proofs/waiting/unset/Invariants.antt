use Rattle.std.proofs.Common.{eqb, not}
use Rattle.tool_scheduler.proofs.RoundLemmas.{Left}
use Rattle.tool_scheduler.proofs.waiting.unset.Given as goal

-- below a place those alone are left that are not gone
abbrev pub invariant-loop-other : goal.invariant-loop-other
invariant-loop-other l = Left (λ k. not (eqb k l.place)) l.fn.ready l.ready l.other
