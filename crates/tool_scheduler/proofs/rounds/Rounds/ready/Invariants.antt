use Rattle.tool_scheduler.specs.Rounds.{HaveSlots}
use Rattle.tool_scheduler.proofs.rounds.Rounds.ready.Given as goal

-- who is said to be ready has a slot
abbrev pub invariant-loop-place : goal.invariant-loop-place
invariant-loop-place g l = HaveSlots l.ready l.table.slots.items
