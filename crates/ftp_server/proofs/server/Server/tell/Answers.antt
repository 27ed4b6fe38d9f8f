use Rattle.std.proofs.Common.{◌∙◌, OnErr, OnOk, ap, inr, subst, sym}
use Rattle.ftp_server.proofs.DataLemmas.{late_of}
use Rattle.ftp_server.proofs.HearLemmas.{on_err, on_ok}
use Rattle.ftp_server.specs.Data.{IsSaid, SayingFails, TellsSaid}
use Rattle.ftp_server.specs.Server.{OnCourse, view_of}
use Rattle.ftp_server_model.specs.Failing.{Late, WaitingFails}
use Rattle.ftp_server_model.specs.Heard.{later_heard, latest}
use Rattle.ftp_server_model.specs.Machine.{faulted, later}
use Rattle.ftp_server.proofs.server.Server.tell.Goals as goal

pub returns-in-Faulty-clause-done : goal.returns-in-Faulty-clause-done
returns-in-Faulty-clause-done g c =
    let view = view_of g.T.Tree.table g.J.ServerTransfer.view in let old = c.args.self.now in
    let d = c.drop_transfer in let l = c.later_again in
    subst (λ told. OnOk l.result (OnCourse g.T.Tree.failures old l.new.self → IsSaid told (view old) (view l.new.self))) (sym c.in-Faulty.is)
    (on_ok l.result (λ done course. done (course ∙ ap (λ n. n.failures.strays) (sym d.ensures.steady)) ∙ ap later d.ensures.view) l.ensures.done)

pub returns-in-Faulty-clause-told : goal.returns-in-Faulty-clause-told
returns-in-Faulty-clause-told g c =
    let view = view_of g.T.Tree.table g.J.ServerTransfer.view in let old = c.args.self.now in
    let d = c.drop_transfer in let l = c.later_again in
    subst (λ told. OnOk l.result (OnCourse g.T.Tree.failures old l.new.self → TellsSaid told (view old) old.heard l.new.self.heard)) (sym c.in-Faulty.is)
    (on_ok l.result
    (λ told course. told (course ∙ ap (λ n. n.failures.strays) (sym d.ensures.steady)) ∙ ap (λ y. latest d.new.self.heard (later_heard y)) d.ensures.view
    ∙ ap (λ before. latest before (later_heard (faulted (view old)))) d.ensures.heard)
    l.ensures.told)

pub returns-in-Faulty-clause-lost : goal.returns-in-Faulty-clause-lost
returns-in-Faulty-clause-lost g c =
    let view = view_of g.T.Tree.table g.J.ServerTransfer.view in let old = c.args.self.now in
    let d = c.drop_transfer in let l = c.later_again in
    subst (λ told. OnErr l.result (OnCourse g.T.Tree.failures old l.new.self → SayingFails told (view old) (view l.new.self))) (sym c.in-Faulty.is)
    (on_err l.result
    (λ lost course. inr (subst (λ y. WaitingFails y.waiting y (view l.new.self)) d.ensures.view (lost (course ∙ ap (λ n. n.failures.strays) (sym d.ensures.steady)))))
    l.ensures.lost)

pub returns-in-NoMemory-clause-lost : goal.returns-in-NoMemory-clause-lost
returns-in-NoMemory-clause-lost g c = λ course.
    let view = view_of g.T.Tree.table g.J.ServerTransfer.view in let old = c.args.self.now in
    let d = c.drop_transfer-in-NoMemory in let l = c.later-settled in
    subst (λ told. SayingFails told (view old) (view l.new.self)) (sym c.in-NoMemory.is)
    (subst (λ y. Late y (view l.new.self)) d.ensures.view
    (late_of l.result (view d.new.self) (view l.new.self) l.ensures.done l.ensures.lost (course ∙ ap (λ n. n.failures.strays) (sym d.ensures.steady))))
