use Rattle.std.proofs.Common.{◌∙◌, ap, sym}
use Rattle.ftp_server.proofs.DataLemmas.{late_of, settles, settles_behind_fault}
use Rattle.ftp_server.specs.Server.{counts_of, server_of, view_of}
use Rattle.ftp_server.proofs.CountingLemmas.{by_octets}
use Rattle.ftp_server.proofs.ToldLemmas.{fault_told, settles_told}
use Rattle.ftp_server.proofs.server.Server.settle_behind.Goals as goal

pub returns-then-is_err-clause-settled : goal.returns-then-is_err-clause-settled
returns-then-is_err-clause-settled g c =
    let table = g.T.Tree.table in let failures = g.T.Tree.failures in let view = g.J.ServerTransfer.view in
    let l = c.later-settled in
    settles_behind_fault c.args.step c.args.failures (server_of table failures view c.args.self.now) (server_of table failures view l.new.self) (server_of table failures view c.count.new.self)
    (sym c.is_err.ensures.value ∙ c.if-is_err.true) (late_of l.result (view_of table view c.args.self.now) (view_of table view l.new.self) l.ensures.done l.ensures.lost)
    l.ensures.refusals c.count.ensures.view c.count.ensures.device c.count.ensures.failed

pub returns-else-is_err-clause-settled : goal.returns-else-is_err-clause-settled
returns-else-is_err-clause-settled g c =
    let table = g.T.Tree.table in let failures = g.T.Tree.failures in let view = g.J.ServerTransfer.view in
    let l = c.later-settled in let n = c.count-else-is_err in
    settles c.args.step l.result c.args.failures (server_of table failures view c.args.self.now) (server_of table failures view l.new.self) (server_of table failures view n.new.self)
    (sym c.is_err.ensures.value ∙ c.if-is_err.false) l.ensures.done l.ensures.lost l.ensures.refusals l.ensures.steady n.ensures.view n.ensures.device n.ensures.done n.ensures.failed
    (by_octets (counts_of failures c.args.self.now) (counts_of failures l.new.self) (counts_of failures n.new.self) l.ensures.refusals l.ensures.few n.ensures.few n.ensures.device)

pub returns-then-is_err-clause-told : goal.returns-then-is_err-clause-told
returns-then-is_err-clause-told g c = fault_told _ c.args.step (sym c.is_err.ensures.value ∙ c.if-is_err.true)

pub returns-else-is_err-clause-told : goal.returns-else-is_err-clause-told
returns-else-is_err-clause-told g c =
    let table = g.T.Tree.table in let failures = g.T.Tree.failures in let view = g.J.ServerTransfer.view in
    let l = c.later-settled in let n = c.count-else-is_err in
    settles_told c.args.step l.result c.args.failures (server_of table failures view c.args.self.now) (server_of table failures view l.new.self) (server_of table failures view n.new.self)
    l.new.self.heard n.new.self.heard (sym c.is_err.ensures.value ∙ c.if-is_err.false) l.ensures.told n.ensures.told l.ensures.refusals n.ensures.device n.ensures.failed
