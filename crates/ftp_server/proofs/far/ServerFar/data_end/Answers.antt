use Rattle.ftp_server_model.specs.Calls.{connection_of, end_step}
use Rattle.ftp_server_model.specs.Failing.{EndFails}
use Rattle.ftp_server.proofs.DataLemmas.{install_fails, steps}
use Rattle.ftp_server.proofs.HearLemmas.{on_err}
use Rattle.ftp_server.specs.Server.{counts_of, server_of, view_of}
use Rattle.ftp_server.proofs.CountingLemmas.{by_step}
use Rattle.ftp_server.proofs.ToldLemmas.{tells_step}
use Rattle.ftp_server.proofs.far.ServerFar.data_end.Goals as goal

pub returns-clause-acts : goal.returns-clause-acts
returns-clause-acts g c =
    let table = g.T.Tree.table in let failures = g.T.Tree.failures in let view = g.J.ServerTransfer.view in
    let r = c.end_transfer-ended in let v = view_of table view c.args.self.now in let w = view_of table view r.new.self in
    steps EndFails end_step (server_of table failures view c.args.self.now) (server_of table failures view r.new.self) (server_of table failures view c.settle_behind.new.self)
    c.device_failures-failures.result r.result c.device_failures-failures.ensures r.ensures.refusals r.ensures.done r.ensures.steady
    (on_err r.result (λ is course x after. install_fails (connection_of v.session) v w x (is course) after) r.ensures.lost) r.ensures.few c.settle_behind.ensures.few c.settle_behind.ensures.settled
    (by_step (counts_of failures c.args.self.now) (counts_of failures r.new.self) (counts_of failures c.settle_behind.new.self) r.ensures.refusals r.ensures.few c.settle_behind.ensures.refusals c.settle_behind.ensures.few)

pub returns-clause-told : goal.returns-clause-told
returns-clause-told g c =
    let table = g.T.Tree.table in let failures = g.T.Tree.failures in let view = g.J.ServerTransfer.view in
    let r = c.end_transfer-ended in
    tells_step end_step c.settle_behind.new.self.heard (server_of table failures view c.args.self.now) (server_of table failures view r.new.self) (server_of table failures view c.settle_behind.new.self)
    c.device_failures-failures.result r.result c.device_failures-failures.ensures r.ensures.refusals r.ensures.done r.ensures.steady
    r.ensures.few c.settle_behind.ensures.few c.settle_behind.ensures.settled c.settle_behind.ensures.told
