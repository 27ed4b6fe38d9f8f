use Rattle.std.proofs.Common.{◌≡◌, ◌∙◌, ap, subst}
use Rattle.std.specs.Prelude.{IsTrue}
use Rattle.std.proofs.lemmas.Result.{on_err_weaker}
use Rattle.ftp_client_model.specs.Calls.{is_sound}
use Rattle.ftp_client_model.specs.View.{View}
use Rattle.ftp_client_session.specs.Client.{shorted, view_of}
use Rattle.ftp_client_session.proofs.CarryLemmas.{aborts_short, aborts_stands, closes_short, closes_stands}
use Rattle.ftp_client_session.proofs.GrowLemmas.{abort_grows, answer_grows}
use Rattle.ftp_client_session.proofs.dialogue.Dialogue.carry_on.Goals as goal

pub returns-in_default-clause-err : goal.returns-in_default-clause-err
returns-in_default-clause-err g c =
    let v : View = view_of g.F.ClientTransfer.flow c.args.self.now in
    ap shorted (c.in_default.ensures.err ∙ c.close_once_given.ensures) ∙ closes_short v.job v

pub returns-clause-err : goal.returns-clause-err
returns-clause-err g c =
    let v : View = view_of g.F.ClientTransfer.flow c.args.self.now in
    on_err_weaker c.answer_once_over.result (λ same.
    same
    ∙ ap shorted c.in-Ok.ensures.ok
    ∙ aborts_short (view_of g.F.ClientTransfer.flow c.close_once_given.new.self)
    ∙ ap shorted c.close_once_given.ensures
    ∙ closes_short v.job v)
    c.answer_once_over.ensures.err

pub returns-clause-was : goal.returns-clause-was
returns-clause-was g c =
    let v : View = view_of g.F.ClientTransfer.flow c.args.self.now in
    let w : View = view_of g.F.ClientTransfer.flow c.close_once_given.new.self in
    let stands : c.abort_once_enough.new.self.standing ≡ c.args.self.now.standing =
    ap (λ (u : View). u.standing) c.in-Ok.ensures.ok ∙ aborts_stands w.job w ∙ ap (λ (u : View). u.standing) c.close_once_given.ensures ∙ closes_stands v.job v in
    on_err_weaker c.answer_once_over.result (λ was. subst (λ s. IsTrue (is_sound s)) stands was) c.answer_once_over.ensures.was

pub returns-in_default-clause-grows : goal.returns-in_default-clause-grows
returns-in_default-clause-grows g c =
    abort_grows (view_of g.F.ClientTransfer.flow c.args.self.now) (view_of g.F.ClientTransfer.flow c.close_once_given.new.self)
    c.close_once_given.ensures c.in_default.ensures.grows

pub returns-clause-grows : goal.returns-clause-grows
returns-clause-grows g c =
    on_err_weaker c.answer_once_over.result (λ grows.
    answer_grows (view_of g.F.ClientTransfer.flow c.args.self.now) (view_of g.F.ClientTransfer.flow c.close_once_given.new.self)
    (view_of g.F.ClientTransfer.flow c.abort_once_enough.new.self) c.close_once_given.ensures c.in-Ok.ensures.ok grows)
    c.answer_once_over.ensures.grows
