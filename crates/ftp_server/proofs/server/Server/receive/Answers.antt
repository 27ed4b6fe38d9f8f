use Rattle.std.proofs.Common.{ap, refl, take}
use Rattle.ftp_tree.specs.Tree.{under}
use Rattle.ftp_server.proofs.DataLemmas.{said_done, said_lost, takes_some, under_way}
use Rattle.ftp_server.proofs.HearLemmas.{on_err, on_ok}
use Rattle.ftp_server.proofs.ToldLemmas.{said_told}
use Rattle.ftp_server.specs.Server.{view_of}
use Rattle.ftp_server_session.specs.Session.{connection_seen}
use Rattle.ftp_server.proofs.server.Server.receive.Goals as goal

pub returns-clause-done : goal.returns-clause-done
returns-clause-done g c =
    let view = g.J.ServerTransfer.view in
    let r = c.receive-received in let t = c.tell-outcome in let v = view_of g.T.Tree.table view c.args.self.now in
    let old = view c.in-Transferring.transfer in
    let carried = ap (connection_seen view) c.in-Transferring.is in
    let part = under (g.T.Tree.table c.args.self.now.session.tree) c.args.self.now.session.root in
    on_ok t.result
    (λ said course. said_done r.result.told (take r.result.count c.args.piece.now) old (view r.new.self) v (view_of g.T.Tree.table view t.new.self) carried
    (r.ensures.comes v (under_way part old v carried refl c.requires.may)) (said course))
    t.ensures.done

pub returns-clause-lost : goal.returns-clause-lost
returns-clause-lost g c =
    let view = g.J.ServerTransfer.view in
    let r = c.receive-received in let t = c.tell-outcome in let v = view_of g.T.Tree.table view c.args.self.now in
    let old = view c.in-Transferring.transfer in
    let carried = ap (connection_seen view) c.in-Transferring.is in
    let part = under (g.T.Tree.table c.args.self.now.session.tree) c.args.self.now.session.root in
    on_err t.result
    (λ lost course. said_lost r.result.told (take r.result.count c.args.piece.now) old (view r.new.self) v (view_of g.T.Tree.table view t.new.self) carried
    (r.ensures.comes v (under_way part old v carried refl c.requires.may)) (lost course))
    t.ensures.lost

pub returns-clause-told : goal.returns-clause-told
returns-clause-told g c =
    let view = g.J.ServerTransfer.view in
    let r = c.receive-received in let t = c.tell-outcome in let v = view_of g.T.Tree.table view c.args.self.now in
    let old = view c.in-Transferring.transfer in
    let carried = ap (connection_seen view) c.in-Transferring.is in
    let part = under (g.T.Tree.table c.args.self.now.session.tree) c.args.self.now.session.root in
    on_ok t.result
    (λ told course. said_told r.result.told (take r.result.count c.args.piece.now) old (view r.new.self) v c.args.self.now.heard t.new.self.heard carried
    (r.ensures.comes v (under_way part old v carried refl c.requires.may)) (told course))
    t.ensures.told

pub returns-clause-some : goal.returns-clause-some
returns-clause-some g c wide =
    let view = g.J.ServerTransfer.view in
    c.receive-received.ensures.some
    (takes_some (view c.in-Transferring.transfer) (view_of g.T.Tree.table view c.args.self.now) (ap (connection_seen view) c.in-Transferring.is) c.requires.may) wide
