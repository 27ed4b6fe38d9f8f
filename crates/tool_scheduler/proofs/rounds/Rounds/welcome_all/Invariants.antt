use Rattle.tool_scheduler.specs.Rounds.{Spares}
use Rattle.tool_scheduler.specs.Sharing.{OnlyShared, rules_of, shared}
use Rattle.tool_scheduler.proofs.rounds.Rounds.welcome_all.Given as goal

-- turns beside the order alone were told, and nothing else happened to the tree and the sessions
abbrev pub invariant-loop : goal.invariant-loop
invariant-loop g l = record {
  spares : Spares (g.M.Slot.Slot.history l.fn.tree) (g.M.Slot.Slot.history l.tree);
  shares : OnlyShared (rules_of g.M.Slots.begins g.M.Slots.starts g.M.Slot.Slot.takes) (shared l.fn.tree l.fn.table.slots.items) (shared l.tree l.table.slots.items);
}
