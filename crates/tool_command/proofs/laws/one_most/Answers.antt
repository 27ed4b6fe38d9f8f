use Rattle.tool_command.proofs.AmountLemmas.{most_once}
use Rattle.tool_command.proofs.laws.one_most.Goals as goal

pub returns : goal.returns
returns c = most_once
