use Rattle.std.proofs.Common.{false}
use Rattle.tool_scheduler.specs.Rounds.{HaveSlots, round_standing}
use Rattle.tool_scheduler.specs.Sharing.{OnlyShared, rules_of, shared}
use Rattle.tool_scheduler.proofs.RoundLemmas.{Others}
use Rattle.tool_scheduler.proofs.rounds.Rounds.other_turns.Given as goal

-- what was told leads to how all wait now, who is ready has a slot, and nothing else happened to the tree and the sessions
abbrev pub invariant-loop : goal.invariant-loop
invariant-loop g l =
    let history = g.M.Slot.Slot.history in
    record {
      told : Others (history l.fn.tree) (history l.tree) (round_standing l.fn.waiting l.fn.order false) l.waiting l.order;
      ready : HaveSlots l.waiting.ready l.table.slots.items;
      shares : OnlyShared (rules_of g.M.Slots.begins g.M.Slots.starts g.M.Slot.Slot.takes) (shared l.fn.tree l.fn.table.slots.items) (shared l.tree l.table.slots.items);
    }
