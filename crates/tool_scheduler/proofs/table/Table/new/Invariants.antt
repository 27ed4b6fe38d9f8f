use Rattle.tool_scheduler.specs.Sharing.{AreFree, occupants_of}
use Rattle.tool_scheduler.proofs.table.Table.new.Given as goal

-- no slot is taken
abbrev pub invariant-loop : goal.invariant-loop
invariant-loop g l = AreFree (occupants_of l.slots.items)
