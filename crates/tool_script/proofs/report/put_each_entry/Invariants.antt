use Rattle.std.proofs.Common.{◌≡◌, ◌++◌, take, flat_map}
use Rattle.tool_script.specs.Report.{line_in_list}
use Rattle.tool_script.proofs.report.put_each_entry.Given as goal

abbrev pub invariant-loop-entry : goal.invariant-loop-entry
invariant-loop-entry g l = l.out.items ≡ l.fn.out.items ++ flat_map line_in_list (take l.entry-index l.entries)
