use Rattle.std.proofs.Common.{◌≡◌, ◌++◌, ◌+◌, ◌*◌, ◌≤◌, flat_map, length, take}
use Rattle.tool_script.specs.Field.{written}
use Rattle.tool_script.proofs.field.write_front.Given as goal

-- what stands in the room, and what the rest is written as, are what all octets are written as; each octet takes four of the room at most
abbrev pub invariant-loop-count : goal.invariant-loop-count
invariant-loop-count l =
    (take l.count l.room ++ flat_map written l.rest ≡ flat_map written l.octets) × ((l.count ≤ 256) × (l.count + 4 * length l.rest ≤ 4 * length l.octets))

abbrev pub decreases-loop-count : goal.decreases-loop-count
decreases-loop-count l = length l.rest
