use Rattle.std.proofs.Common.{◌≡◌, ◌≤◌, take, count_by}
use Rattle.tool_listing.specs.entries.Lines.{is_strange_name}
use Rattle.tool_listing.proofs.entries.lines.strange_names.Given as goal

abbrev pub invariant-loop-name : goal.invariant-loop-name
invariant-loop-name l = (l.count ≤ l.name-index) × (l.count ≡ count_by (is_strange_name l.path) (take l.name-index l.names))
