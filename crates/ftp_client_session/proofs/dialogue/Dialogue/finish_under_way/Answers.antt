use Rattle.std.proofs.Common.{◌≡◌, ◌∙◌, Some, refl, sym, ap}
use Rattle.std.specs.Prelude.{is_some}
use Rattle.std.specs.Bool.{then_some}
use Rattle.std.proofs.lemmas.Result.{on_ok_weaker, on_err_weaker}
use Rattle.ftp_operation.specs.Answer.{said_of}
use Rattle.ftp_client_model.specs.Dialogue.{next_with}
use Rattle.ftp_client_model.specs.View.{View}
use Rattle.ftp_client_session.specs.Client.{job_of, view_of}
use Rattle.ftp_client_session.proofs.AgainLemmas.{other_follows, other_short}
use Rattle.ftp_client_session.proofs.RunLemmas.{under_way}
use Rattle.ftp_client_session.proofs.dialogue.Dialogue.finish_under_way.Goals as goal

pub returns-in-Ok-true-clause-ok : goal.returns-in-Ok-true-clause-ok
returns-in-Ok-true-clause-ok g c =
    let d = c.args.self.now in
    let v : View = view_of g.F.ClientTransfer.flow d in
    let op = c.next.new.self.op in
    let said = said_of c.args.answer in
    let next : Some op ≡ next_with v.run d.op said = ap (λ follows. then_some follows op) (sym c.in-Ok-true.field-0-test) ∙ c.in-Ok-true.ensures.next in
    on_ok_weaker c.try_again.result (λ begun.
    other_follows (view_of g.F.ClientTransfer.flow c.try_again.new.self) (view_of g.F.ClientTransfer.flow c.next.new.self) v op op
    (job_of g.F.ClientTransfer.flow op d.place) (next_with v.run d.op said) said refl c.next.ensures.view next begun)
    c.try_again.ensures.ok

pub returns-in-Ok-true-clause-err : goal.returns-in-Ok-true-clause-err
returns-in-Ok-true-clause-err g c =
    let d = c.args.self.now in
    let op = c.next.new.self.op in
    on_err_weaker c.try_again.result (λ begun.
    other_short (view_of g.F.ClientTransfer.flow c.try_again.new.self) (view_of g.F.ClientTransfer.flow c.next.new.self) (view_of g.F.ClientTransfer.flow d)
    (job_of g.F.ClientTransfer.flow op d.place) (under_way g.F.ClientTransfer.flow op d.place c.requires) (under_way g.F.ClientTransfer.flow d.op d.place c.requires)
    c.next.ensures.view begun)
    c.try_again.ensures.err

pub returns-in-Ok-true-clause-followed : goal.returns-in-Ok-true-clause-followed
returns-in-Ok-true-clause-followed g c =
    let d = c.args.self.now in
    let v : View = view_of g.F.ClientTransfer.flow d in
    let op = c.next.new.self.op in
    let next : Some op ≡ next_with v.run d.op (said_of c.args.answer) = ap (λ follows. then_some follows op) (sym c.in-Ok-true.field-0-test) ∙ c.in-Ok-true.ensures.next in
    on_err_weaker c.try_again.result (λ begun. ap is_some (sym next)) c.try_again.ensures.err
