use Rattle.std.proofs.Common.{length}
use Rattle.ftp_tree.proofs.CountLemmas.{stray-first}
use Rattle.ftp_server_model.specs.Calls.{given_step, to_give}
use Rattle.ftp_server_model.specs.Failing.{GiveFails}
use Rattle.ftp_server.proofs.DataLemmas.{not_failed, steps}
use Rattle.ftp_server.proofs.TakenLemmas.{some_given}
use Rattle.ftp_server.specs.Server.{counts_of, server_of, view_of}
use Rattle.ftp_server.proofs.CountingLemmas.{by_step}
use Rattle.ftp_server.proofs.ToldLemmas.{tells_step}
use Rattle.ftp_server.proofs.far.ServerFar.data_out.Goals as goal

pub returns-clause-now : goal.returns-clause-now
returns-clause-now g c =
    let table = g.T.Tree.table in let failures = g.T.Tree.failures in let view = g.J.ServerTransfer.view in
    let r = c.give-given in
    steps (GiveFails r.result.count) (given_step r.result.count) (server_of table failures view c.args.self.now) (server_of table failures view r.new.self) (server_of table failures view c.settle_behind.new.self)
    c.device_failures-failures.result r.result.outcome c.device_failures-failures.ensures r.ensures.refusals r.ensures.done r.ensures.steady
    r.ensures.lost r.ensures.few c.settle_behind.ensures.few c.settle_behind.ensures.settled
    (by_step (counts_of failures c.args.self.now) (counts_of failures r.new.self) (counts_of failures c.settle_behind.new.self) r.ensures.refusals
    r.ensures.few c.settle_behind.ensures.refusals c.settle_behind.ensures.few)

pub returns-clause-some : goal.returns-clause-some
returns-clause-some g c = λ same wide more.
    let table = g.T.Tree.table in let failures = g.T.Tree.failures in let view = g.J.ServerTransfer.view in
    let r = c.give-given in
    some_given (length c.args.room.now) (length (to_give (view_of table view c.args.self.now))) r.result.count
    (not_failed r.result.outcome c.device_failures-failures.result (server_of table failures view c.args.self.now) (server_of table failures view r.new.self)
    (server_of table failures view c.settle_behind.new.self) c.device_failures-failures.ensures r.ensures.refusals r.ensures.few c.settle_behind.ensures.few
    c.settle_behind.ensures.settled same r.ensures.full)
    wide more

pub returns-clause-most : goal.returns-clause-most
returns-clause-most g c = λ same.
    let table = g.T.Tree.table in let failures = g.T.Tree.failures in let view = g.J.ServerTransfer.view in
    let r = c.give-given in
    not_failed r.result.outcome c.device_failures-failures.result (server_of table failures view c.args.self.now) (server_of table failures view r.new.self)
    (server_of table failures view c.settle_behind.new.self) c.device_failures-failures.ensures r.ensures.refusals r.ensures.few c.settle_behind.ensures.few
    c.settle_behind.ensures.settled same r.ensures.full

pub returns-clause-told : goal.returns-clause-told
returns-clause-told g c =
    let table = g.T.Tree.table in let failures = g.T.Tree.failures in let view = g.J.ServerTransfer.view in
    let r = c.give-given in
    tells_step (given_step r.result.count) c.settle_behind.new.self.heard (server_of table failures view c.args.self.now) (server_of table failures view r.new.self) (server_of table failures view c.settle_behind.new.self)
    c.device_failures-failures.result r.result.outcome c.device_failures-failures.ensures r.ensures.refusals r.ensures.done r.ensures.steady
    r.ensures.few c.settle_behind.ensures.few c.settle_behind.ensures.settled c.settle_behind.ensures.told

pub returns-clause-left : goal.returns-clause-left
returns-clause-left g c = λ course.
    let failures = g.T.Tree.failures in let r = c.give-given in
    r.ensures.left (stray-first (failures c.args.self.now.session.tree) (failures r.new.self.session.tree) (failures c.settle_behind.new.self.session.tree)
    r.ensures.few.1 c.settle_behind.ensures.few.1 course)

pub returns-clause-gave : goal.returns-clause-gave
returns-clause-gave g c = λ course.
    let failures = g.T.Tree.failures in let r = c.give-given in
    r.ensures.gave (stray-first (failures c.args.self.now.session.tree) (failures r.new.self.session.tree) (failures c.settle_behind.new.self.session.tree)
    r.ensures.few.1 c.settle_behind.ensures.few.1 course)
