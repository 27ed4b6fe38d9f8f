use Rattle.std.proofs.Common.{refl}
use Rattle.tool_scheduler.proofs.SharingLemmas.{shares_free, shares_on, shares_over}
use Rattle.tool_scheduler.proofs.rounds.Rounds.turn.Goals as goal

pub returns-in-Over-clause-shares : goal.returns-in-Over-clause-shares
returns-in-Over-clause-shares g c =
    shares_over _ _ _ _ _ _ _ c.turn-taken.new.self _ _ c.in-Some.ensures.freed c.deref_mut.ensures.value c.turn-taken.ensures.takes c.in-Over.is

pub returns-in-Later-clause-shares : goal.returns-in-Later-clause-shares
returns-in-Later-clause-shares g c =
    shares_on _ _ _ _ _ _ _ _ _ _ _ c.in-Some.ensures.freed c.deref_mut.ensures.value c.turn-taken.ensures.takes refl c.in-Later.is c.put.ensures.put

pub returns-in_default-clause-shares : goal.returns-in_default-clause-shares
returns-in_default-clause-shares g c = shares_free _ _ _ _ _ _ c.free.ensures.freed c.in_default.is
