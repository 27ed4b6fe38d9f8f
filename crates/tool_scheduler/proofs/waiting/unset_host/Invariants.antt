use Rattle.std.proofs.Common.{eqb, not}
use Rattle.tool_scheduler.specs.Rounds.{host_in}
use Rattle.tool_scheduler.proofs.RoundLemmas.{Left}
use Rattle.tool_scheduler.proofs.waiting.unset_host.Given as goal

-- below a place those alone are left that are not gone
abbrev pub invariant-loop-other : goal.invariant-loop-other
invariant-loop-other l = Left (λ k. not (eqb (host_in l.hosts k) l.host)) l.fn.ready l.ready l.other
