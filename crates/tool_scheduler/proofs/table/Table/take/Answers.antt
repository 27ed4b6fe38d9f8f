use Rattle.std.proofs.Common.{◌∙◌, refl, sym}
use Rattle.tool_scheduler.proofs.SharingLemmas.{seated}
use Rattle.tool_scheduler.proofs.table.Table.take.Goals as goal

pub returns-in-Some : goal.returns-in-Some
returns-in-Some g c = seated _ _ _ _ c.in-Some.place (sym c.first_free.ensures ∙ c.in-Some.is) refl c.put.ensures.put
