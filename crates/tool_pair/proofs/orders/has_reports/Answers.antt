use Rattle.std.proofs.Common.{◌∙◌, sym}
use Rattle.std.proofs.lemmas.Bool.{eqb-true}
use Rattle.tool_pair.proofs.orders.has_reports.Goals as goal

pub returns : goal.returns
returns g c = λ yes. sym c.report_count.ensures ∙ eqb-true _ _ yes
