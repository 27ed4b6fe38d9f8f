use Rattle.std.proofs.Common.{arith, drop, refl, rules}
use Rattle.ftp_ports.specs.Machine.{Received}
use Rattle.ftp_driver.proofs.Words.{Other, by_action, by_nowhere, by_then_any, fails_lets, fails_spent, fails_then, goes_err, leads_then, lets_go, nil_from_length, received, receives, with_untold}
use Rattle.ftp_driver.proofs.hand.hand.Goals as goal

pub loop-rest-init : goal.loop-rest-init
loop-rest-init g c channel is_open = by_nowhere _ _ c.new-turns.ensures

pub returns-in_err-next-clause-goes : goal.returns-in_err-next-clause-goes
returns-in_err-next-clause-goes g c channel is_open =
    goes_err c.in_err-next.field-0.0 _ _ c.from_residual.result c.from_residual.ensures.1
    (fails_lets _ _ _ _ (fails_spent _ _ _ _ (c.loop-rest.invariant channel is_open) c.in_err-next.ensures.none) (refl, refl) refl)

pub returns-in_err-flush-clause-goes : goal.returns-in_err-flush-clause-goes
returns-in_err-flush-clause-goes g c channel is_open =
    let heard = c.data_hear-taken in
    let behind = drop heard.result c.loop-rest.rest.now in
    goes_err c.in_err-flush.field-0.0 _ _ c.from_residual-in_err-flush.result c.from_residual-in_err-flush.ensures.1 (fails_lets _ _ _ _
    (fails_then _ _ _ _ (c.loop-rest.invariant channel is_open).leads (fails_then _ _ _ _ (receives g.K.EndCalls.machine _ _ channel heard.result c.loop-rest.rest.now is_open (search rules) heard.ensures.took _ _ _)
    (c.in_err-flush.ensures.flushes (with_untold behind channel)))) (refl, refl) refl)

pub loop-rest-preserved : goal.loop-rest-preserved
loop-rest-preserved g c channel is_open =
    let heard = c.data_hear-taken in
    rw c.split_at.ensures.back (by_then_any _ _ _ _
    (by_action (Other (Received c.loop-rest.rest.now heard.result)) _ _ _ _ _ (c.loop-rest.invariant channel is_open) c.in_ok-next.ensures.made (omega arith)
    (received g.K.EndCalls.machine _ _ channel heard.result c.loop-rest.rest.now is_open (search rules) heard.ensures.took, refl))
    (c.in_ok-flush.ensures.flushes (with_untold (drop heard.result c.loop-rest.rest.now) channel)).leads)

pub returns-then-ne-clause-goes : goal.returns-then-ne-clause-goes
returns-then-ne-clause-goes g c channel is_open =
    leads_then _ _ _ (c.loop-rest.invariant channel is_open).leads
    (lets_go g.K.EndCalls.machine (g.K.EndCalls.here c.loop-rest.end) channel c.loop-rest.rest.now (search rules) _ _ _)

pub returns-clause-goes : goal.returns-clause-goes
returns-clause-goes g c channel is_open = rw (nil_from_length c.loop-rest.rest.now (search rules)) at (c.loop-rest.invariant channel is_open).leads
