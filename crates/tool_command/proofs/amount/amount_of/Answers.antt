use Rattle.tool_command.proofs.AmountLemmas.{none_alone, none_behind}
use Rattle.tool_command.proofs.amount.amount_of.Goals as goal

pub returns-in-Some-clause-none : goal.returns-in-Some-clause-none
returns-in-Some-clause-none c = none_behind _ _ _ _ c.in-Some.ensures.some c.times.ensures.none

pub returns-in-None-clause-none : goal.returns-in-None-clause-none
returns-in-None-clause-none c = none_alone _ _ c.in-None.ensures.none c.times-in-None.ensures.none
