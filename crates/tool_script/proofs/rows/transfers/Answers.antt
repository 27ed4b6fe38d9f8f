use Rattle.std.proofs.Common.{refl}
use Rattle.tool_script.specs.Line.{order_value}
use Rattle.tool_script.proofs.rows.transfers.Goals as goal

pub returns : goal.returns
unfolding order_value
returns c = (refl, refl, refl, refl, refl, refl, refl, refl, refl, refl, refl, refl, refl, refl)
