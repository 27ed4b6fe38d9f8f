use Rattle.tool_scheduler.proofs.SharingLemmas.{shares_seat}
use Rattle.tool_scheduler.proofs.rounds.Rounds.slot.Goals as goal

pub returns-in-Some : goal.returns-in-Some
returns-in-Some g c = shares_seat _ c.args.tree.now c.in-Some.session.value _ _ c.in-Some.ensures.starts c.take.ensures
