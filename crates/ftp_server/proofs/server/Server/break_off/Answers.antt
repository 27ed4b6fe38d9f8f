use Rattle.std.proofs.Common.{◌∙◌, ap, refl, subst, sym}
use Rattle.ftp_server_model.specs.Endpoint.{forgotten}
use Rattle.ftp_server_model.specs.Machine.{aborts, at_break}
use Rattle.ftp_server_session.specs.Session.{connection_seen}
use Rattle.ftp_server.specs.Breaking.{InstallIsLost}
use Rattle.ftp_server.specs.Server.{view_of}
use Rattle.ftp_server.proofs.ConcludeLemmas.{concludes, loses_upload, put_in}
use Rattle.ftp_server.proofs.CountingLemmas.{later_fault, none_told, steady_behind}
use Rattle.ftp_server.proofs.server.Server.break_off.Goals as goal

pub returns-in-Ok-clause-done : goal.returns-in-Ok-clause-done
returns-in-Ok-clause-done g c = λ course.
    let table = g.T.Tree.table in let view = g.J.ServerTransfer.view in
    let v = view_of table view c.args.self.now in let m = view_of table view c.take_connection.new.self in
    let transfer = view c.in-Transferring.transfer in
    let carried = sym c.take_connection.ensures.connection ∙ ap (connection_seen view) c.in-Transferring.is in
    concludes at_break transfer (forgotten v.session) v m (table c.at_break.new.tree) c.in-Ok.text c.put_fixed.new.self c.take_connection.ensures.view
    ((c.in-Ok.ensures.ends m.session refl refl refl).0 (course ∙ ap (λ n. n.failures.strays) (sym c.take_connection.ensures.steady))) c.put_fixed.ensures.octets
    ∙ ap (λ c. aborts c v) (sym carried)

pub returns-in-Transferring-clause-lost : goal.returns-in-Transferring-clause-lost
returns-in-Transferring-clause-lost g c = λ course.
    let table = g.T.Tree.table in let view = g.J.ServerTransfer.view in
    let v = view_of table view c.args.self.now in let m = view_of table view c.take_connection.new.self in
    let transfer = view c.in-Transferring.transfer in
    let carried = sym c.take_connection.ensures.connection ∙ ap (connection_seen view) c.in-Transferring.is in
    subst (λ link. InstallIsLost link (forgotten v.session) v (put_in (table c.at_break.new.tree) c.put_fixed-in-Err.new.self m)) (sym carried)
    (loses_upload transfer (forgotten v.session) v m (table c.at_break.new.tree) c.put_fixed-in-Err.new.self c.in-Err.ensures.upload c.take_connection.ensures.view
    ((c.in-Err.ensures.ends m.session refl refl refl).0 (course ∙ ap (λ n. n.failures.strays) (sym c.take_connection.ensures.steady))) c.put_fixed-in-Err.ensures.octets)

pub returns-in-Ok-clause-steady : goal.returns-in-Ok-clause-steady
returns-in-Ok-clause-steady g c =
    let m = view_of g.T.Tree.table g.J.ServerTransfer.view c.take_connection.new.self in
    steady_behind _ _ _ (ap (λ n. n.failures) c.take_connection.ensures.steady) (c.in-Ok.ensures.ends m.session refl refl refl).1

pub returns-in-Ok-clause-few : goal.returns-in-Ok-clause-few
returns-in-Ok-clause-few g c =
    let m = view_of g.T.Tree.table g.J.ServerTransfer.view c.take_connection.new.self in
    none_told 1 _ _ (steady_behind _ _ _ (ap (λ n. n.failures) c.take_connection.ensures.steady) (c.in-Ok.ensures.ends m.session refl refl refl).1)

pub returns-in-Transferring-clause-few : goal.returns-in-Transferring-clause-few
returns-in-Transferring-clause-few g c =
    let m = view_of g.T.Tree.table g.J.ServerTransfer.view c.take_connection.new.self in
    later_fault c.in-Err.field-0 _ _ _ (ap (λ n. n.failures) c.take_connection.ensures.steady) (c.in-Err.ensures.ends m.session refl refl refl).1
