use Rattle.std.proofs.Common.{List}
use Rattle.tool_session.specs.Talking.{HasExchanged, SessionExchange}
use Rattle.tool_job.proofs.single.parents.make_above.Given as goal

-- so far these exchanges were had
abbrev pub invariant-loop-end : goal.invariant-loop-end
invariant-loop-end g l = (heard : List SessionExchange) × HasExchanged g.S.ClientSession.answers l.fn.slot heard l.slot
