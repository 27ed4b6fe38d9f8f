use Rattle.std.proofs.Common.{false}
use Rattle.tool_scheduler.specs.Rounds.{round_standing}
use Rattle.tool_scheduler.proofs.RoundLemmas.{gives_other, takes_ready}
use Rattle.tool_scheduler.proofs.SharingLemmas.{shares_then}
use Rattle.tool_scheduler.proofs.rounds.Rounds.other_turns.Goals as goal

pub give-requires : goal.give-requires
give-requires g c = c.loop.invariant.ready c.in-Some.place (takes_ready _ _ _ _ c.in-Some.ensures.taken)

pub loop-preserved : goal.loop-preserved
loop-preserved g c =
    let history = g.M.Slot.Slot.history in
    record {
      told = gives_other (history c.args.tree.now) (history c.loop.tree) (history c.give.new.tree)
          (round_standing c.args.waiting.now c.args.order.now false) c.loop.waiting c.give.new.waiting c.loop.order c.take.new.self c.in-Some.place
          c.loop.invariant.told c.in-Some.ensures.taken c.give.ensures.first c.give.ensures.ready c.give.ensures.hosts c.give.ensures.told;
      ready = c.give.ensures.taken c.loop.invariant.ready;
      shares = shares_then _ _ _ _ c.loop.invariant.shares c.give.ensures.shares;
    }
