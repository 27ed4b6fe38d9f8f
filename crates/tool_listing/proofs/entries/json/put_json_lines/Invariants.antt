use Rattle.std.proofs.Common.{◌≡◌, ◌++◌, take, flat_map}
use Rattle.tool_listing.specs.entries.Json.{line_json}
use Rattle.tool_listing.proofs.entries.json.put_json_lines.Given as goal

abbrev pub invariant-loop-text : goal.invariant-loop-text
invariant-loop-text l = l.out.items ≡ l.fn.out.items ++ flat_map line_json (take l.text-index l.lines)
