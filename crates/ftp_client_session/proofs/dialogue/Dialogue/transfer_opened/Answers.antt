use Rattle.std.proofs.Common.{◌∙◌, ap}
use Rattle.std.proofs.lemmas.Result.{on_ok_weaker, on_err_weaker}
use Rattle.ftp_client_model.specs.View.{View}
use Rattle.ftp_client_session.specs.Client.{job_of, transfer_seen, view_of}
use Rattle.ftp_client_session.proofs.AwaitedLemmas.{awaited_short, opened_is}
use Rattle.ftp_client_session.proofs.dialogue.Dialogue.transfer_opened.Goals as goal

pub returns-clause-ok : goal.returns-clause-ok
returns-clause-ok g c =
    let d = c.args.self.now in
    let v : View = view_of g.F.ClientTransfer.flow d in
    on_ok_weaker c.with_reply.result (λ now.
    opened_is (view_of g.F.ClientTransfer.flow c.with_reply.new.self) v c.awaited-self.result d.op (transfer_seen g.F.ClientTransfer.flow d.op c.in-Transferring.field-0) c.args.code
    (ap (job_of g.F.ClientTransfer.flow d.op) c.in-Transferring.is) c.if-code-eq-MARK.false c.awaited-self.ensures now)
    c.with_reply.ensures.ok

pub returns-clause-err : goal.returns-clause-err
returns-clause-err g c =
    let v : View = view_of g.F.ClientTransfer.flow c.args.self.now in
    on_err_weaker c.with_reply.result (λ same. same ∙ awaited_short v c.awaited-self.result c.awaited-self.ensures) c.with_reply.ensures.err
