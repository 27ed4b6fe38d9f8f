use Rattle.std.proofs.Common.{ℕ, Option, IfOk, OnErr, subst}
use Rattle.tool_command.specs.Numbers.{SaysIfGiven}
use Rattle.tool_command.proofs.password.rounds_of.Goals as goal

pub returns-clause-some : goal.returns-clause-some
returns-clause-some c = subst (λ word. IfOk c.rounds_by.result (λ rounds. SaysIfGiven word rounds)) c.get_str.ensures c.rounds_by.ensures.some

pub returns-clause-none : goal.returns-clause-none
returns-clause-none c = subst (λ word. OnErr c.rounds_by.result ((rounds : Option ℕ) → ¬ SaysIfGiven word rounds)) c.get_str.ensures c.rounds_by.ensures.none
