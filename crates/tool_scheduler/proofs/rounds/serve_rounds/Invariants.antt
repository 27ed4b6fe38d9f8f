use Rattle.std.proofs.Common.{min}
use Rattle.tool_scheduler.specs.Rounds.{GoesOnTo, start}
use Rattle.tool_scheduler.specs.Sharing.{rules_of}
use Rattle.tool_scheduler.proofs.SharingLemmas.{IsServedSoFar}
use Rattle.tool_scheduler.proofs.rounds.serve_rounds.Given as goal

-- what was told is of rounds, the last of which is done, and leads to this order; nothing else happened to the tree
abbrev pub invariant-loop : goal.invariant-loop
invariant-loop g l = record {
  goes : GoesOnTo (g.M.Slot.Slot.history l.fn.tree) (g.M.Slot.Slot.history l.tree) (start (min l.fn.session_limits.at_once 64)) l.order;
  shares : IsServedSoFar (rules_of g.M.Slots.begins g.M.Slots.starts g.M.Slot.Slot.takes) l.fn.tree l.tree l.table.slots.items;
}
