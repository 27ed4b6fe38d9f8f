use Rattle.std.proofs.Common.{take}
use Rattle.tool_mirror_plan.specs.Index.{Indexes}
use Rattle.tool_mirror_plan.proofs.index.kinds_of.Given as goal

-- the map has what stands under the names of the entries so far
abbrev pub invariant-loop-item : goal.invariant-loop-item
invariant-loop-item l = Indexes l.kinds (take l.item-index l.items)
