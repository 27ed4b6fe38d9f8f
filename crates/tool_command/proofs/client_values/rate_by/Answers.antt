use Rattle.std.proofs.Common.{option_map, subst}
use Rattle.tool_command.specs.ClientValues.{SaysRate}
use Rattle.tool_command.proofs.client_values.rate_by.Goals as goal

pub returns-in-None-clause-none : goal.returns-in-None-clause-none
returns-in-None-clause-none c =
    λ rate said. c.in-None.ensures.none rate (subst (λ word. SaysRate (option_map (λ w. w.now) word) rate) c.in-Some.is said)
