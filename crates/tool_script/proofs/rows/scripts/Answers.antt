use Rattle.std.proofs.Common.{refl}
use Rattle.tool_script.specs.Line.{login_value, order_value}
use Rattle.tool_script.proofs.rows.scripts.Goals as goal

pub returns : goal.returns
unfolding login_value order_value
returns c = (refl, refl, refl, refl, refl, refl, refl)
