use Rattle.std.proofs.Common.{refl, arith}
use Rattle.std.proofs.lemmas.Iterator.{YieldsList-from_range, items_from_collect}
use Rattle.tool_scheduler.proofs.order.places_below.Goals as goal

pub returns : goal.returns
returns g c = items_from_collect _ c.collect.ensures.ran (YieldsList-from_range 0 c.args.count c.args.count refl (omega arith))
