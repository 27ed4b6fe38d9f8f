use Rattle.std.proofs.Common.{◌∙◌, ap, length, sym}
use Rattle.std.proofs.lemmas.List.{length-map}
use Rattle.ftp_operation.specs.Answer.{said_of}
use Rattle.tool_pair.proofs.orders.report_count.Goals as goal

pub returns : goal.returns
returns g c = sym (length-map c.reports.result.now said_of) ∙ ap length c.reports.ensures
