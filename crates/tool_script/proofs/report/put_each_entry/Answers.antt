use Rattle.tool_script.specs.Report.{line_in_list}
use Rattle.tool_script.proofs.ReportLemmas.{one_more}
use Rattle.tool_script.proofs.report.put_each_entry.Goals as goal

pub loop-entry-preserved : goal.loop-entry-preserved
loop-entry-preserved g c =
    one_more (line_in_list {A = g.row.A.Denot}) c.args.entries.now c.loop-entry.entry-index c.entry-item.result c.entry-item.result c.args.out.now.items
    c.loop-entry.out.items c.put_entry.new.out.items c.loop-entry-test.true c.entry-item.is c.loop-entry.invariant c.in_ok-put_entry.ensures
