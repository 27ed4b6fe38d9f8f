use Rattle.std.proofs.Common.{◌++◌, ◌∙◌, ap}
use Rattle.tool_script.specs.Report.{name_line}
use Rattle.tool_script.proofs.ReportLemmas.{one_more}
use Rattle.tool_script.proofs.report.put_each_name.Goals as goal

pub loop-name-preserved : goal.loop-name-preserved
loop-name-preserved g c =
    let old = c.loop-name.out.items in
    one_more name_line c.args.names.now c.loop-name.name-index c.name-item.result c.name-item.result c.args.out.now.items old c.put_line.new.out.items
    c.loop-name-test.true c.name-item.is c.loop-name.invariant (c.in_ok-put_line.ensures ∙ ap (λ text. old ++ name_line text) c.as_slice.ensures)
