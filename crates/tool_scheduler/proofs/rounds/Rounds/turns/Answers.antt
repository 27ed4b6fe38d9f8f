use Rattle.std.proofs.Common.{false}
use Rattle.tool_scheduler.specs.Rounds.{round_standing}
use Rattle.tool_scheduler.proofs.RoundLemmas.{round_goes}
use Rattle.tool_scheduler.proofs.SharingLemmas.{shares_round, shares_then}
use Rattle.tool_scheduler.proofs.rounds.Rounds.turns.Goals as goal

pub returns-clause-goes : goal.returns-clause-goes
returns-clause-goes g c =
    let history = g.M.Slot.Slot.history in
    λ old done is.
    round_goes (history c.args.tree.now) (history c.begin_round.new.tree) (history c.first_turns.new.tree) (history c.other_turns.new.tree) old
    (round_standing c.first_turns.new.waiting c.first_turns.new.order false) c.leave_one.new.ready c.hosts-hosts.result c.args.order.now
    c.other_turns.new.order done is c.begin_round.ensures.told c.first_turns.ensures.told c.other_turns.ensures.goes

pub returns-clause-shares : goal.returns-clause-shares
returns-clause-shares g c =
    shares_then _ _ _ _ (shares_then _ _ _ _ (shares_round _ _ _ _ _ c.begin_round.ensures.begins c.hosts-hosts.ensures) c.first_turns.ensures.shares) c.other_turns.ensures.shares
