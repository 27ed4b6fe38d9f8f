use Rattle.std.proofs.Common.{◌∙◌, ap}
use Rattle.tool_log.specs.Json.{stamped}
use Rattle.tool_log.proofs.json.stamp_of.Goals as goal

pub returns : goal.returns
returns c = c.stamped.ensures ∙ ap stamped c.moment_text.ensures.digits
