use Rattle.std.proofs.Common.{codes, decimal, ◌∙◌}
use Rattle.tool_script.proofs.ReportLemmas.{both_put}
use Rattle.tool_script.proofs.report.put_marked.Goals as goal

pub returns : goal.returns
returns g c =
    both_put c.extend_from_slice-2.result c.args.out.now.items (codes " mark ") (decimal c.args.mark) c.as_bytes.result.now
    c.extend_from_slice.new.self.items c.extend_from_slice-2.new.self.items
    c.in_ok-extend_from_slice.ensures.items (c.as_bytes.ensures.value ∙ c.format.ensures.text) c.extend_from_slice-2.ensures.items
