use Rattle.std.proofs.Common.{◌≡◌, ◌++◌, take, flat_map}
use Rattle.tool_mirror_plan.specs.Plan.{copying}
use Rattle.tool_mirror_plan.proofs.planning.put_copying.Given as goal

abbrev pub invariant-loop-item : goal.invariant-loop-item
invariant-loop-item l = l.planned.items ≡ l.fn.planned.items ++ flat_map (copying l.rules l.target) (take l.item-index l.source)
