use Rattle.std.proofs.Common.{refl}
use Rattle.tool_login.proofs.rows.entries.Goals as goal

pub returns : goal.returns
returns c = (refl, refl, refl, refl, refl, refl, refl, refl, refl, refl)
