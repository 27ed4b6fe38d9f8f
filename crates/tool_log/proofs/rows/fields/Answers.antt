use Rattle.std.proofs.Common.{refl}
use Rattle.tool_log.proofs.rows.fields.Goals as goal

pub returns : goal.returns
returns c = (refl, refl, refl, refl, refl, refl, refl, refl, refl, refl)
