use Rattle.std.proofs.Common.{◌≡◌, ◌++◌, take, flat_map}
use Rattle.tool_listing.specs.entries.Json.{octet_json}
use Rattle.tool_listing.proofs.entries.json.put_octets.Given as goal

abbrev pub invariant-loop-octet : goal.invariant-loop-octet
invariant-loop-octet l = l.out.items ≡ l.fn.out.items ++ flat_map octet_json (take l.octet-index l.octets)
