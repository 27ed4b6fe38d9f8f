use Rattle.std.proofs.Common.{◌∙◌, sym}
use Rattle.ftp_direct.proofs.RunLemmas.{bad_operation, unknown_login, known_due}
use Rattle.ftp_direct.proofs.direct_run.answer.Goals as goal

pub returns-then-not-can_be_sent-clause-answer : goal.returns-then-not-can_be_sent-clause-answer
returns-then-not-can_be_sent-clause-answer g c =
    bad_operation _ _ c.args.op.now c.args.moment.seconds (sym c.can_be_sent.ensures ∙ c.if-not-can_be_sent.true)

pub returns-then-not-known-clause-answer : goal.returns-then-not-known-clause-answer
returns-then-not-known-clause-answer g c =
    unknown_login _ _ _ _ c.args.known c.args.rights c.args.op.now c.args.moment.seconds _ c.tell.ensures (sym c.can_be_sent.ensures ∙ c.if-not-can_be_sent.false) c.if-not-known.true

pub returns-clause-answer : goal.returns-clause-answer
returns-clause-answer g c =
    known_due c.permitted.result _ _ _ _ _ _ _ c.args.known c.args.rights c.args.op.now c.args.moment.seconds (sym c.can_be_sent.ensures ∙ c.if-not-can_be_sent.false) c.if-not-known.false c.permitted.ensures.answer
