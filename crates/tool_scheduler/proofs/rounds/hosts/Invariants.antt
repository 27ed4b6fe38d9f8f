use Rattle.std.proofs.Common.{◌≡◌, ◌<◌, ℕ, length, slice_get}
use Rattle.tool_scheduler.specs.Rounds.{host_in}
use Rattle.tool_scheduler.specs.Sharing.{host_of, occupants_of}
use Rattle.tool_scheduler.proofs.rounds.hosts.Given as goal

-- the clients in the slots so far count as these
abbrev pub invariant-loop-place : goal.invariant-loop-place
invariant-loop-place g l =
    (length l.hosts ≡ 64) × ((other : ℕ) → other < l.place → host_in l.hosts other ≡ host_of (slice_get (occupants_of l.table.slots.items) other))
