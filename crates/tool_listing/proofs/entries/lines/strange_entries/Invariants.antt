use Rattle.std.proofs.Common.{◌≡◌, ◌≤◌, take, count_by}
use Rattle.tool_listing.specs.entries.Lines.{is_strange_entry}
use Rattle.tool_listing.proofs.entries.lines.strange_entries.Given as goal

abbrev pub invariant-loop-entry : goal.invariant-loop-entry
invariant-loop-entry l = (l.count ≤ l.entry-index) × (l.count ≡ count_by is_strange_entry (take l.entry-index l.entries))
