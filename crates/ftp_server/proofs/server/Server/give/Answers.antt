use Rattle.std.proofs.Common.{◌∙◌, ap, refl, subst, sym, List, ℕ}
use Rattle.ftp_server_model.specs.Failing.{Late}
use Rattle.ftp_server_model.specs.Machine.{completed, with_session}
use Rattle.ftp_server_model.specs.View.{View}
use Rattle.ftp_server_session.specs.Giving.{Gives}
use Rattle.ftp_server_session.specs.Session.{session_of}
use Rattle.ftp_server.specs.Server.{view_of}
use Rattle.ftp_server.proofs.server.Server.give.Goals as goal

abbrev owing : List ℕ → View → View
owing octets v = record v { owed = octets }

pub returns-then-given-clause-lost : goal.returns-then-given-clause-lost
returns-then-given-clause-lost g c =
    let table = g.T.Tree.table in let view = g.J.ServerTransfer.view in
    let r = c.give-given in let v = view_of table view c.args.self.now in let s = session_of table view r.new.self in
    λ course x late.
    let fails = subst (λ b. Gives v r.result.count b s) c.if-given.true (r.ensures.on course v refl) in
    fails x (subst (λ o. Late (owing o (with_session s v)) x) c.put_fixed.ensures.octets late)

pub returns-clause-done : goal.returns-clause-done
returns-clause-done g c =
    let table = g.T.Tree.table in let view = g.J.ServerTransfer.view in
    let r = c.give-given in let v = view_of table view c.args.self.now in let s = session_of table view r.new.self in
    λ course. c.complete.ensures.done ∙ ap completed (sym (subst (λ b. Gives v r.result.count b s) c.if-given.false
    (r.ensures.on (ap (λ n. n.failures.strays) (sym c.complete.ensures.steady) ∙ course) v refl)))

pub returns-clause-full : goal.returns-clause-full
returns-clause-full g c = λ course. c.give-given.ensures.full (ap (λ n. n.failures.strays) (sym c.complete.ensures.steady) ∙ course) c.if-given.false
