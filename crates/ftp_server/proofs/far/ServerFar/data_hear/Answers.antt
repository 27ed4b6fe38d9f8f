use Rattle.std.proofs.Common.{◌∙◌, subst, sym, take}
use Rattle.ftp_server_model.specs.Most.{IsMostReceived}
use Rattle.ftp_server.proofs.CallLemmas.{unfailed}
use Rattle.ftp_server.proofs.DataLemmas.{received}
use Rattle.ftp_server.specs.Server.{counts_of, server_of}
use Rattle.ftp_server.proofs.CountingLemmas.{by_octets}
use Rattle.ftp_server.proofs.far.ServerFar.data_hear.Goals as goal

pub returns-clause-took : goal.returns-clause-took
returns-clause-took g c =
    let failures = g.T.Tree.failures in
    let server = server_of g.T.Tree.table failures g.J.ServerTransfer.view in
    let r = c.receive_octets-taken in let n = c.count in
    received (take r.result.count c.args.piece.now) (server c.args.self.now) (server r.new.self) (server n.new.self) c.device_failures-failures.result r.result.outcome
    c.device_failures-failures.ensures r.ensures.refusals r.ensures.done r.ensures.lost r.ensures.steady n.ensures.view n.ensures.device n.ensures.done n.ensures.failed
    (by_octets (counts_of failures c.args.self.now) (counts_of failures r.new.self) (counts_of failures n.new.self) r.ensures.refusals r.ensures.few n.ensures.few n.ensures.device)

pub returns-clause-most : goal.returns-clause-most
returns-clause-most g c = λ fine.
    let counts = counts_of g.T.Tree.failures in
    let r = c.receive_octets-taken in let n = c.count in
    subst (λ w. IsMostReceived r.result.count c.args.piece.now w) (sym n.ensures.view)
    (unfailed (counts c.args.self.now) (counts r.new.self) (counts n.new.self) c.device_failures-failures.result r.result.outcome c.device_failures-failures.ensures r.ensures.refusals
    n.ensures.device n.ensures.failed r.ensures.most fine)

pub returns-clause-told : goal.returns-clause-told
returns-clause-told g c = λ fine.
    let counts = counts_of g.T.Tree.failures in
    let r = c.receive_octets-taken in let n = c.count in
    n.ensures.told
    ∙ unfailed (counts c.args.self.now) (counts r.new.self) (counts n.new.self) c.device_failures-failures.result r.result.outcome c.device_failures-failures.ensures r.ensures.refusals
    n.ensures.device n.ensures.failed r.ensures.told fine
