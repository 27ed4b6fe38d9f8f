use Rattle.std.proofs.Common.{false}
use Rattle.tool_scheduler.specs.Rounds.{HaveSlots, ComesMeanwhile, ones, round_standing}
use Rattle.tool_scheduler.specs.Sharing.{OnlyShared, rules_of, shared}
use Rattle.tool_scheduler.proofs.rounds.Rounds.first_turns.Given as goal

-- what was told leads to how all wait now, who is ready has a slot, and nothing else happened to the tree and the sessions
abbrev pub invariant-loop-place : goal.invariant-loop-place
invariant-loop-place g l =
    let history = g.M.Slot.Slot.history in
    record {
      told : ComesMeanwhile (history l.fn.tree) (history l.tree) (round_standing l.fn.waiting l.fn.order false) (round_standing l.waiting l.order false);
      first : HaveSlots l.waiting.first l.table.slots.items;
      ready : HaveSlots l.waiting.ready l.table.slots.items;
      shares : OnlyShared (rules_of g.M.Slots.begins g.M.Slots.starts g.M.Slot.Slot.takes) (shared l.fn.tree l.fn.table.slots.items) (shared l.tree l.table.slots.items);
    }

-- how many are ready whose address had no turn
abbrev pub decreases-loop-place : goal.decreases-loop-place
decreases-loop-place g l = ones l.waiting.first
