use Rattle.ftp_direct.proofs.RightsLemmas.{permitted_before, permitted_due, permitted_not}
use Rattle.ftp_direct.proofs.direct_run.permitted.Goals as goal

pub returns-in-Some-clause-answer : goal.returns-in-Some-clause-answer
returns-in-Some-clause-answer g c =
    let is = rw c.in-Some.is at c.in_ok-why.ensures.why in
    permitted_not _ _ _ _ _ _ c.args.rights c.args.op.now c.args.moment.seconds _ _ c.tell.ensures is c.in_ok-why.ensures.same

pub returns-clause-answer : goal.returns-clause-answer
returns-clause-answer g c =
    let may = rw c.in_default.is at c.in_ok-why.ensures.why in
    permitted_due c.due.result _ _ _ _ _ _ _ _ _ c.args.rights c.args.op.now c.args.moment.seconds may c.in_ok-why.ensures.same c.due.ensures.answer

pub returns-clause-kept : goal.returns-clause-kept
returns-clause-kept g c =
    let may = rw c.in_default.is at c.in_ok-why.ensures.why in
    permitted_before c.due.result _ _ _ _ _ _ _ may c.in_ok-why.ensures.same c.due.ensures.kept
