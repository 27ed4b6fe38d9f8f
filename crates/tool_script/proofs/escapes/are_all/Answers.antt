use Rattle.tool_script.proofs.EscapeLemmas.{equal_lanes}
use Rattle.tool_script.proofs.escapes.are_all.Goals as goal

pub returns : goal.returns
returns c = equal_lanes c.args.octet c.args.lanes c.requires
