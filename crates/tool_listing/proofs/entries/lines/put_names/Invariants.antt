use Rattle.std.proofs.Common.{◌≡◌, ◌++◌, take, flat_map}
use Rattle.tool_listing.specs.entries.Lines.{name_text}
use Rattle.tool_listing.proofs.entries.lines.put_names.Given as goal

abbrev pub invariant-loop-name : goal.invariant-loop-name
invariant-loop-name l = l.out.items ≡ l.fn.out.items ++ flat_map (name_text l.path) (take l.name-index l.names)
