use Rattle.std.proofs.Common.{◌≡◌, ◌++◌, take, flat_map}
use Rattle.tool_listing.specs.entries.Lines.{shown_entry_text}
use Rattle.tool_listing.proofs.entries.lines.put_entries.Given as goal

abbrev pub invariant-loop-entry : goal.invariant-loop-entry
invariant-loop-entry l = l.out.items ≡ l.fn.out.items ++ flat_map shown_entry_text (take l.entry-index l.entries)
