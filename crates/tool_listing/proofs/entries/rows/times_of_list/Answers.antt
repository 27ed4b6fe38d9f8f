use Rattle.std.proofs.Common.{refl}
use Rattle.tool_listing.proofs.entries.rows.times_of_list.Goals as goal

pub returns : goal.returns
returns c = (refl, refl, refl, refl, refl, refl)
