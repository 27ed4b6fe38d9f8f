use Rattle.std.proofs.Common.{ℕ, IfOk, OnErr, subst}
use Rattle.tool_command.specs.ClientValues.{SaysOctetLimit}
use Rattle.tool_command.proofs.words.limit_in.Goals as goal

pub returns-clause-some : goal.returns-clause-some
returns-clause-some c = subst (λ word. IfOk c.octet_limit_by.result (λ most. SaysOctetLimit word most)) c.get_str.ensures c.octet_limit_by.ensures.some

pub returns-clause-none : goal.returns-clause-none
returns-clause-none c = subst (λ word. OnErr c.octet_limit_by.result ((most : ℕ) → ¬ SaysOctetLimit word most)) c.get_str.ensures c.octet_limit_by.ensures.none
