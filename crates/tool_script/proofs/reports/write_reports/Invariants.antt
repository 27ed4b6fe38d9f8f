use Rattle.std.proofs.Common.{◌≡◌, take, flat_map}
use Rattle.std.specs.Io.KnownBytes.{Appends}
use Rattle.tool_script.specs.Report.{report}
use Rattle.tool_terminal.specs.declared.status.Status.TheVariants.{Done}
use Rattle.tool_script.specs.Status.{worst_after}
use Rattle.tool_script.proofs.reports.write_reports.Given as goal

-- the reports so far were written, and the status is their worst
abbrev pub invariant-loop-answer : goal.invariant-loop-answer
invariant-loop-answer g l =
    Appends (g.W.Write.contents l.fn.writer) (g.W.Write.contents l.writer) (flat_map report (take l.answer-index l.answers))
    × (l.worst ≡ worst_after Done (take l.answer-index l.answers))
