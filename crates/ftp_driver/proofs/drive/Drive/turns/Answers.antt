use Rattle.std.proofs.Common.{inl}
use Rattle.ftp_driver.proofs.Words.{asides, by_nowhere, ends_err, fails_then, leads_then, refl, rules, turned_off, turns_lead, turns_on, turns_spent}
use Rattle.ftp_driver.proofs.drive.Drive.turns.Goals as goal

pub loop-self-init : goal.loop-self-init
loop-self-init g c = (inl (by_nowhere _ _ c.new-turns.ensures), (refl, refl, refl, refl))

pub returns-in-Some-clause-ends : goal.returns-in-Some-clause-ends
returns-in-Some-clause-ends g c = (_, turns_lead g.K.EndCalls.machine _ _ _ c.loop-self.invariant.0, rw c.in-Some.is at c.over.ensures, refl)

pub returns-in-Some-clause-kept : goal.returns-in-Some-clause-kept
returns-in-Some-clause-kept g c = c.loop-self.invariant.1

pub returns-in_err-turn-in-None-clause-ends : goal.returns-in_err-turn-in-None-clause-ends
returns-in_err-turn-in-None-clause-ends g c =
    let machine = g.K.EndCalls.machine in
    ends_err machine g.K.EndCalls.last c.in_err-turn-in-None.field-0.0 _ _ c.from_residual-in_err-turn-in-None.result c.from_residual-in_err-turn-in-None.ensures.1
    (fails_then _ _ _ _ (leads_then _ _ _ (turns_lead machine _ _ _ c.loop-self.invariant.0) (asides machine g.K.EndCalls.goes_on _ _ _ (rw c.in-None.is at c.over.ensures) _ _ _))
    (turned_off machine _ _ _ c.in_err-turn-in-None.ensures.gets))

pub loop-self-preserved : goal.loop-self-preserved
loop-self-preserved g c = (
  turns_on g.K.EndCalls.machine _ _ _ _ _ _ c.loop-self.invariant.0 c.in_ok-next.ensures.made (g.met.K.EndCalls.is_over _ _ (rw c.in-None.is at c.over.ensures))
      (asides g.K.EndCalls.machine g.K.EndCalls.goes_on _ _ _ (rw c.in-None.is at c.over.ensures) _ _ _) c.in_ok-turn-in-None.ensures.gets,
  search rules,
)

pub returns-in_err-next-clause-ends : goal.returns-in_err-next-clause-ends
returns-in_err-next-clause-ends g c =
    ends_err g.K.EndCalls.machine g.K.EndCalls.last c.in_err-next.field-0.0 _ _ c.from_residual.result c.from_residual.ensures.1
    (turns_spent g.K.EndCalls.machine _ _ _ _ c.loop-self.invariant.0 c.in_err-next.ensures.none)
