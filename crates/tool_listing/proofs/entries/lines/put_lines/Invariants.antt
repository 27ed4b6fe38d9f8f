use Rattle.std.proofs.Common.{◌≡◌, ◌++◌, take, flat_map}
use Rattle.tool_listing.specs.entries.Lines.{line}
use Rattle.tool_listing.proofs.entries.lines.put_lines.Given as goal

abbrev pub invariant-loop-text : goal.invariant-loop-text
invariant-loop-text l = l.out.items ≡ l.fn.out.items ++ flat_map line (take l.text-index l.lines)
