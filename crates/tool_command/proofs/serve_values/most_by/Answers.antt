use Rattle.std.proofs.Common.{option_map, subst}
use Rattle.tool_command.specs.Serving.{SaysLimit}
use Rattle.tool_command.proofs.serve_values.most_by.Goals as goal

pub returns-in-None-clause-none : goal.returns-in-None-clause-none
returns-in-None-clause-none c =
    λ most said. c.in-None.ensures.none most (subst (λ word. SaysLimit (option_map (λ w. w.now) word) c.args.unsaid most) c.in-Some.is said)
