use Rattle.std.proofs.Common.{false}
use Rattle.tool_scheduler.specs.Rounds.{round_standing}
use Rattle.tool_scheduler.proofs.RoundLemmas.{fewer_first, gives_first, takes_ready}
use Rattle.tool_scheduler.proofs.SharingLemmas.{shares_then}
use Rattle.tool_scheduler.proofs.rounds.Rounds.first_turns.Goals as goal

pub give-requires : goal.give-requires
give-requires g c = c.loop-place.invariant.first c.in-Some.place (takes_ready _ _ _ _ c.in-Some.ensures.taken)

pub loop-place-smaller : goal.loop-place-smaller
loop-place-smaller g c = fewer_first _ _ _ _ _ _ c.in-Some.ensures.taken c.give.ensures.first

pub loop-place-preserved : goal.loop-place-preserved
loop-place-preserved g c =
    let history = g.M.Slot.Slot.history in
    record {
      told = gives_first (history c.args.tree.now) (history c.loop-place.tree) (history c.give.new.tree)
          (round_standing c.args.waiting.now c.args.order.now false) c.loop-place.waiting c.give.new.waiting c.loop-place.order c.take.new.self c.in-Some.place
          c.loop-place.invariant.told c.in-Some.ensures.taken c.give.ensures.first c.give.ensures.ready c.give.ensures.hosts c.give.ensures.told;
      first = c.give.ensures.taken_first c.loop-place.invariant.first;
      ready = c.give.ensures.taken c.loop-place.invariant.ready;
      shares = shares_then _ _ _ _ c.loop-place.invariant.shares c.give.ensures.shares;
    }
