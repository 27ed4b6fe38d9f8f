use Rattle.std.proofs.Common.{◌≡◌, ◌++◌, take, flat_map}
use Rattle.tool_get_put.specs.Choosing.{chosen_line}
use Rattle.tool_get_put.proofs.listing.put_all_chosen.Given as goal

abbrev pub invariant-loop-line : goal.invariant-loop-line
invariant-loop-line l = l.chosen.items ≡ l.fn.chosen.items ++ flat_map (chosen_line l.verb l.pattern) (take l.line-index l.lines)
