use Rattle.std.proofs.Common.{◌+◌, ◌≤◌, arith, rules}
use Rattle.ftp_driver.proofs.Words.{asides, fails_then, leads_then, made_far, made_leads, made_on, refl, turned_off, turns_err}
use Rattle.ftp_driver.proofs.drive.Drive.some_turns.Goals as goal

pub returns-in-Some-clause-turns : goal.returns-in-Some-clause-turns
returns-in-Some-clause-turns g c = (_, made_leads g.K.EndCalls.machine _ _ _ c.loop-made.invariant.0, rw c.in-Some.is at c.over.ensures, refl)

pub returns-in_err-would_wait-clause-turns : goal.returns-in_err-would_wait-clause-turns
returns-in_err-would_wait-clause-turns g c =
    let machine = g.K.EndCalls.machine in
    turns_err machine g.K.EndCalls.last c.args.most c.in_err-would_wait.field-0.0 _ _ c.from_residual.result c.from_residual.ensures.1
    (fails_then _ _ _ _ (leads_then _ _ _ (made_leads machine _ _ _ c.loop-made.invariant.0) (asides machine g.K.EndCalls.goes_on _ _ _ (rw c.in-None.is at c.over.ensures) _ _ _))
    c.in_err-would_wait.ensures.goes)

pub returns-then-branch-clause-turns : goal.returns-then-branch-clause-turns
returns-then-branch-clause-turns g c =
    let machine = g.K.EndCalls.machine in
    leads_then _ _ _ (leads_then _ _ _ (made_leads machine _ _ _ c.loop-made.invariant.0) (asides machine g.K.EndCalls.goes_on _ _ _ (rw c.in-None.is at c.over.ensures) _ _ _))
    c.in_ok-would_wait.ensures.goes

pub returns-in_err-turn-clause-turns : goal.returns-in_err-turn-clause-turns
returns-in_err-turn-clause-turns g c =
    let machine = g.K.EndCalls.machine in
    turns_err machine g.K.EndCalls.last c.args.most c.in_err-turn.field-0.0 _ _ c.from_residual-in_err-turn.result c.from_residual-in_err-turn.ensures.1
    (fails_then _ _ _ _ (leads_then _ _ _ (leads_then _ _ _ (made_leads machine _ _ _ c.loop-made.invariant.0)
    (asides machine g.K.EndCalls.goes_on _ _ _ (rw c.in-None.is at c.over.ensures) _ _ _)) c.in_ok-would_wait.ensures.goes)
    (turned_off machine _ _ _ c.in_err-turn.ensures.gets))

pub loop-made-preserved : goal.loop-made-preserved
loop-made-preserved g c =
    let machine = g.K.EndCalls.machine in
    let less : c.loop-made.made + 1 ≤ c.args.most = search rules in (
      made_on machine _ _ _ _ _ c.loop-made.invariant.0 (g.met.K.EndCalls.is_over _ _ (rw c.in-None.is at c.over.ensures))
          (leads_then _ _ _ (asides machine g.K.EndCalls.goes_on _ _ _ (rw c.in-None.is at c.over.ensures) _ _ _) c.in_ok-would_wait.ensures.goes) c.in_ok-turn.ensures.gets,
      search rules,
      less,
    )

pub returns-clause-turns : goal.returns-clause-turns
returns-clause-turns g c =
    let far = made_far g.K.EndCalls.machine _ _ _ c.loop-made.invariant.0 in
    let all : c.args.most ≤ c.loop-made.made = search rules in
    record { leads = far.leads; made = omega (arith, far.made, all) }
