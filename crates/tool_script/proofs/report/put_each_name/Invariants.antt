use Rattle.std.proofs.Common.{◌≡◌, ◌++◌, take, flat_map}
use Rattle.tool_script.specs.Report.{name_line}
use Rattle.tool_script.proofs.report.put_each_name.Given as goal

abbrev pub invariant-loop-name : goal.invariant-loop-name
invariant-loop-name g l = l.out.items ≡ l.fn.out.items ++ flat_map name_line (take l.name-index l.names)
