use Rattle.std.proofs.Common.{◌∙◌, ap}
use Rattle.tool_terminal.specs.Status.{worse}
use Rattle.tool_terminal.specs.declared.status.Status.TheVariants.{Done}
use Rattle.tool_script.proofs.Reporting.{one_more, worst_one_more}
use Rattle.tool_script.proofs.reports.write_reports.Goals as goal

pub loop-answer-preserved : goal.loop-answer-preserved
loop-answer-preserved g c = (
  one_more c.args.answers.now c.loop-answer.answer-index c.answer-item.result c.answer-item.result (g.W.Write.contents c.args.writer.now) (g.W.Write.contents c.loop-answer.writer)
      (g.W.Write.contents c.write_report.new.writer) c.loop-answer-test.true c.answer-item.is c.loop-answer.invariant.0 c.in_ok-write_report.ensures.wrote,
  worst_one_more c.args.answers.now c.loop-answer.answer-index c.answer-item.result c.answer-item.result Done c.loop-answer.worst c.worse-worst.result c.loop-answer-test.true
      c.answer-item.is c.loop-answer.invariant.1 (c.worse-worst.ensures ∙ ap (worse c.loop-answer.worst) c.in_ok-write_report.ensures.status),
)
