use Rattle.std.proofs.Common.{◌∙◌, sym, ap}
use Rattle.std.proofs.lemmas.Result.{on_ok_weaker, on_err_weaker}
use Rattle.ftp_client_model.specs.View.{View}
use Rattle.ftp_client_steps.specs.Verdict.{verdict_in}
use Rattle.ftp_reply.specs.Lines.{joined}
use Rattle.ftp_client_session.specs.Client.{job_of, shorted, transfer_seen, view_of}
use Rattle.ftp_client_session.proofs.ReplyLemmas.{behind_is, unless_short}
use Rattle.ftp_client_session.proofs.replies.transfer.behind_opening.Goals as goal

pub returns-in-Negative-clause-ok : goal.returns-in-Negative-clause-ok
returns-in-Negative-clause-ok g c =
    let d = c.args.dialogue.now in
    let v : View = view_of g.F.ClientTransfer.flow d in
    let code = c.args.reply.now.code in
    let t = transfer_seen g.F.ClientTransfer.flow d.op c.in-Transferring.field-0 in
    on_ok_weaker c.with_reply-in-Negative.result (λ is.
    behind_is (view_of g.F.ClientTransfer.flow c.with_reply-in-Negative.new.self) (view_of g.F.ClientTransfer.flow c.close_unless_open.new.self) v d.op t code
    (joined c.args.reply.now.lines) (verdict_in c.args.verdict) (ap (job_of g.F.ClientTransfer.flow d.op) (sym c.place.ensures.place ∙ c.in-Transferring.is)) (ap verdict_in c.in-Negative.is)
    c.close_unless_open.ensures is)
    c.with_reply-in-Negative.ensures.ok

pub returns-in-Negative-clause-err : goal.returns-in-Negative-clause-err
returns-in-Negative-clause-err g c =
    let d = c.args.dialogue.now in
    let v : View = view_of g.F.ClientTransfer.flow d in
    on_err_weaker c.with_reply-in-Negative.result (λ same.
    same ∙ ap shorted c.close_unless_open.ensures ∙ unless_short d.connection v)
    c.with_reply-in-Negative.ensures.err
