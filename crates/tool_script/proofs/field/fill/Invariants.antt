use Rattle.std.proofs.Common.{◌≡◌, ◌+◌, ◌-◌, ◌≤◌, length, take}
use Rattle.tool_script.specs.Field.{Between, said_from, with_front}
use Rattle.tool_script.proofs.field.fill.Given as goal

-- what stands in the room and what the rest says are what the text says; each octet of the room took one of the text at least
abbrev pub invariant-loop-count : goal.invariant-loop-count
invariant-loop-count l =
    (said_from l.text Between ≡ with_front (take l.count l.room) (said_from l.rest Between)) × ((l.count ≤ 256) × (length l.rest + l.count ≤ length l.text))

abbrev pub decreases-loop-count : goal.decreases-loop-count
decreases-loop-count l = 256 - l.count
