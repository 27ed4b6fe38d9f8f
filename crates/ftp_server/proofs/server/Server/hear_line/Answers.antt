use Rattle.std.proofs.Common.{◌∙◌, Some, ap, sym}
use Rattle.ftp_server.proofs.DataLemmas.{on_any}
use Rattle.ftp_server.proofs.HearLemmas.{abort_fails, line_aborts, line_waits, on_err, on_ok}
use Rattle.ftp_server.proofs.ToldLemmas.{abort_is_told, line_told}
use Rattle.ftp_server.specs.Server.{view_of}
use Rattle.ftp_server.proofs.server.Server.hear_line.Goals as goal

pub returns-then-is_abort-clause-done : goal.returns-then-is_abort-clause-done
returns-then-is_abort-clause-done g c =
    let v = view_of g.T.Tree.table g.J.ServerTransfer.view c.args.self.now in
    on_ok c.abort-aborted.result (λ e course. e course ∙ line_aborts c.args.heard v (sym c.is_abort.ensures.is ∙ c.if-is_abort.true)) c.abort-aborted.ensures.done

pub returns-then-is_abort-clause-lost : goal.returns-then-is_abort-clause-lost
returns-then-is_abort-clause-lost g c =
    let v = view_of g.T.Tree.table g.J.ServerTransfer.view c.args.self.now in let w = view_of g.T.Tree.table g.J.ServerTransfer.view c.abort-aborted.new.self in
    on_err c.abort-aborted.result (λ h course. abort_fails c.args.heard v w (sym c.is_abort.ensures.is ∙ c.if-is_abort.true) (h course)) c.abort-aborted.ensures.lost

pub returns-clause-done : goal.returns-clause-done
returns-clause-done g c =
    let v = view_of g.T.Tree.table g.J.ServerTransfer.view c.args.self.now in
    on_ok c.later.result (λ e course. e course ∙ line_waits c.args.heard v (sym c.is_abort.ensures.is ∙ c.if-is_abort.false)) c.later.ensures.done

pub returns-clause-told : goal.returns-clause-told
returns-clause-told g c =
    let v = view_of g.T.Tree.table g.J.ServerTransfer.view c.args.self.now in
    on_ok c.later.result (λ e course. line_told c.args.heard v c.later.new.self.heard (sym c.is_abort.ensures.is ∙ c.if-is_abort.false) (e course)) c.later.ensures.told

pub returns-then-is_abort-clause-told : goal.returns-then-is_abort-clause-told
returns-then-is_abort-clause-told g c =
    let v = view_of g.T.Tree.table g.J.ServerTransfer.view c.args.self.now in
    on_any c.abort-aborted.result (λ course. ap Some c.abort.ensures ∙ abort_is_told c.args.heard v (sym c.is_abort.ensures.is ∙ c.if-is_abort.true))
