use Rattle.std.proofs.Common.{◌∙◌, ap, refl, subst, sym}
use Rattle.ftp_server_model.specs.Calls.{breaks}
use Rattle.ftp_server_model.specs.Endpoint.{disconnected}
use Rattle.ftp_server_model.specs.Machine.{at_break}
use Rattle.ftp_server_model.specs.declared.session.ServerLink.TheVariants as Data
use Rattle.ftp_server_session.specs.Session.{connection_seen}
use Rattle.ftp_server.specs.Breaking.{InstallIsLost}
use Rattle.ftp_server.specs.Server.{view_of}
use Rattle.ftp_server.proofs.ConcludeLemmas.{concludes, loses_upload, put_in, stands_here}
use Rattle.ftp_server.proofs.CountingLemmas.{later_fault, none_told, steady_behind}
use Rattle.ftp_server.proofs.server.Server.break_transfer.Goals as goal

pub returns-in-Ok-clause-done : goal.returns-in-Ok-clause-done
returns-in-Ok-clause-done g c = λ course.
    let table = g.T.Tree.table in let view = g.J.ServerTransfer.view in
    let v = view_of table view c.args.self.now in let m = view_of table view c.leave.new.self in
    let transfer = view c.in-Transferring.transfer in
    let carried = sym c.leave.ensures.connection ∙ ap (connection_seen view) c.in-Transferring.is in
    concludes at_break transfer (disconnected v.session) v m (table c.at_break.new.tree) c.in-Ok.text c.put_fixed.new.self c.leave.ensures.view
    ((c.in-Ok.ensures.ends m.session refl refl refl).0 (course ∙ ap (λ n. n.failures.strays) (sym c.leave.ensures.steady))) c.put_fixed.ensures.octets
    ∙ ap (λ c. breaks c v) (sym (stands_here v.session (Data.Transferring transfer) c.if-self.false carried))

pub returns-in-Err-clause-lost : goal.returns-in-Err-clause-lost
returns-in-Err-clause-lost g c = λ course.
    let table = g.T.Tree.table in let view = g.J.ServerTransfer.view in
    let v = view_of table view c.args.self.now in let m = view_of table view c.leave.new.self in
    let transfer = view c.in-Transferring.transfer in
    let carried = sym c.leave.ensures.connection ∙ ap (connection_seen view) c.in-Transferring.is in
    subst (λ link. InstallIsLost link (disconnected v.session) v (put_in (table c.at_break.new.tree) c.put_fixed-in-Err.new.self m)) (sym (stands_here v.session (Data.Transferring transfer) c.if-self.false carried))
    (loses_upload transfer (disconnected v.session) v m (table c.at_break.new.tree) c.put_fixed-in-Err.new.self c.in-Err.ensures.upload c.leave.ensures.view
    ((c.in-Err.ensures.ends m.session refl refl refl).0 (course ∙ ap (λ n. n.failures.strays) (sym c.leave.ensures.steady))) c.put_fixed-in-Err.ensures.octets)

pub returns-in-Ok-clause-steady : goal.returns-in-Ok-clause-steady
returns-in-Ok-clause-steady g c =
    let m = view_of g.T.Tree.table g.J.ServerTransfer.view c.leave.new.self in
    steady_behind _ _ _ (ap (λ n. n.failures) c.leave.ensures.steady) (c.in-Ok.ensures.ends m.session refl refl refl).1

pub returns-in-Ok-clause-few : goal.returns-in-Ok-clause-few
returns-in-Ok-clause-few g c =
    let m = view_of g.T.Tree.table g.J.ServerTransfer.view c.leave.new.self in
    none_told 1 _ _ (steady_behind _ _ _ (ap (λ n. n.failures) c.leave.ensures.steady) (c.in-Ok.ensures.ends m.session refl refl refl).1)

pub returns-in-Err-clause-few : goal.returns-in-Err-clause-few
returns-in-Err-clause-few g c =
    let m = view_of g.T.Tree.table g.J.ServerTransfer.view c.leave.new.self in
    later_fault c.in-Err.field-0 _ _ _ (ap (λ n. n.failures) c.leave.ensures.steady) (c.in-Err.ensures.ends m.session refl refl refl).1
