use Rattle.std.proofs.Common.{ℕ, IfOk, OnErr, subst}
use Rattle.tool_command.specs.ClientValues.{SaysRate}
use Rattle.tool_command.proofs.words.rate_in.Goals as goal

pub returns-clause-some : goal.returns-clause-some
returns-clause-some c = subst (λ word. IfOk c.rate_by.result (λ rate. SaysRate word rate)) c.get_str.ensures c.rate_by.ensures.some

pub returns-clause-none : goal.returns-clause-none
returns-clause-none c = subst (λ word. OnErr c.rate_by.result ((rate : ℕ) → ¬ SaysRate word rate)) c.get_str.ensures c.rate_by.ensures.none
