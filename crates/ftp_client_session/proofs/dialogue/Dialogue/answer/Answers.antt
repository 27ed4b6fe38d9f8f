use Rattle.std.proofs.Common.{◌∙◌, sym, ap, subst, refl}
use Rattle.std.specs.Prelude.{IsTrue}
use Rattle.std.specs.Option.{option_map}
use Rattle.std.proofs.lemmas.Result.{on_ok_weaker, on_err_weaker}
use Rattle.ftp_operation.specs.Answer.{said_of}
use Rattle.ftp_client_model.specs.View.{View}
use Rattle.ftp_client_session.specs.Calm.{is_under_way}
use Rattle.ftp_client_session.specs.Client.{job_of, transfer_seen, view_of}
use Rattle.ftp_client_session.specs.Judged.{job_is_down, job_judged}
use Rattle.ftp_client_session.proofs.JudgedLemmas.{answer_follows}
use Rattle.ftp_client_session.proofs.GrowLemmas.{down_grows, followed_grows}
use Rattle.ftp_client_session.proofs.dialogue.Dialogue.answer.Goals as goal

pub returns-in-Ok-clause-ok : goal.returns-in-Ok-clause-ok
returns-in-Ok-clause-ok g c =
    let d = c.args.self.now in
    let v : View = view_of g.F.ClientTransfer.flow d in
    let u : View = record v { job = job_of g.F.ClientTransfer.flow d.op c.replace-place.new.dest } in
    let sound = d.calm (subst (λ p. IsTrue (is_under_way p)) (sym c.in-Transferring.is) refl) in
    on_ok_weaker c.finish_read.result (λ now.
    answer_follows (view_of g.F.ClientTransfer.flow c.finish_read.new.self) u v d.op (transfer_seen g.F.ClientTransfer.flow d.op c.in-Transferring.field-0) c.args.ending c.args.code
    (job_of g.F.ClientTransfer.flow d.op c.replace-place.result) (option_map said_of c.in-Ok.answer) (ap (job_of g.F.ClientTransfer.flow d.op) c.in-Transferring.is) sound
    (ap (λ p. let w : View = record v { job = job_of g.F.ClientTransfer.flow d.op p } in w) c.replace-place.ensures.after)
    (ap (job_of g.F.ClientTransfer.flow d.op) c.replace-place.ensures.value) c.in-Ok.ensures.answer now)
    c.finish_read.ensures.ok

pub returns-in-Ok-clause-grows : goal.returns-in-Ok-clause-grows
returns-in-Ok-clause-grows g c =
    let d = c.args.self.now in
    let v : View = view_of g.F.ClientTransfer.flow d in
    let was = ap (job_of g.F.ClientTransfer.flow d.op) c.replace-place.ensures.value in
    on_err_weaker c.finish_read.result (λ followed.
    followed_grows c.args.ending c.args.code v.run d.op (transfer_seen g.F.ClientTransfer.flow d.op c.in-Transferring.field-0) v.job (option_map said_of c.in-Ok.answer)
    (ap (job_of g.F.ClientTransfer.flow d.op) c.in-Transferring.is) (c.in-Ok.ensures.answer ∙ ap (job_judged c.args.ending c.args.code) was) followed)
    c.finish_read.ensures.followed

pub returns-in-Err-clause-grows : goal.returns-in-Err-clause-grows
returns-in-Err-clause-grows g c =
    let d = c.args.self.now in
    let v : View = view_of g.F.ClientTransfer.flow d in
    down_grows c.args.ending c.args.code v.run v.job
    (subst (λ place. IsTrue (job_is_down (job_of g.F.ClientTransfer.flow d.op place))) c.replace-place.ensures.value c.in-Err.ensures.down)
