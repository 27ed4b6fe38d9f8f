use Rattle.std.proofs.Common.{◌∙◌, ap, subst}
use Rattle.ftp_command.specs.declared.fault.CommandFault.TheVariants.{Memory}
use Rattle.ftp_nvt.specs.Ear.{lent_line}
use Rattle.ftp_server_model.specs.Heard.{heard_by_line}
use Rattle.ftp_server_model.specs.Machine.{heard_line}
use Rattle.ftp_server.proofs.HearLemmas.{bad_is_heard, line_not_done, line_not_read, on_err, on_ok}
use Rattle.ftp_server.specs.Reading.{SaysTextCommand, IsReadAs}
use Rattle.ftp_server.specs.Server.{view_of}
use Rattle.ftp_server.proofs.server.Server.hear_text.Goals as goal

pub returns-in-Some-clause-done : goal.returns-in-Some-clause-done
returns-in-Some-clause-done g c =
    let v = view_of g.T.Tree.table g.J.ServerTransfer.view c.args.self.now in
    on_ok c.hear_line.result (λ e course read is. e course ∙ ap (λ h. heard_line h v) (c.in-Some.ensures.read read is ∙ ap read c.line.ensures))
    c.hear_line.ensures.done

pub returns-in-Some-clause-lost : goal.returns-in-Some-clause-lost
returns-in-Some-clause-lost g c =
    let v = view_of g.T.Tree.table g.J.ServerTransfer.view c.args.self.now in let w = view_of g.T.Tree.table g.J.ServerTransfer.view c.hear_line.new.self in
    on_err c.hear_line.result
    (λ h course read is. line_not_done c.in-Some.heard (read (lent_line c.args.self.now.reader.ear)) v w (c.in-Some.ensures.read read is ∙ ap read c.line.ensures) (h course))
    c.hear_line.ensures.lost

pub returns-in-None-clause-lost : goal.returns-in-None-clause-lost
returns-in-None-clause-lost g c = λ course read is.
    let v = view_of g.T.Tree.table g.J.ServerTransfer.view c.args.self.now in let w = view_of g.T.Tree.table g.J.ServerTransfer.view c.hear_line-heard.new.self in
    let lost = subst (λ r. IsReadAs (read c.line.result.now) r) c.in-None.is (c.read_line.ensures.read read is) in
    line_not_read (read (lent_line c.args.self.now.reader.ear)) v w (subst (λ t. SaysTextCommand (read t)) c.line.ensures lost)
    (bad_is_heard c.hear_line-heard.result Memory v w c.hear_line-heard.ensures.done c.hear_line-heard.ensures.lost course)

pub returns-in-Some-clause-told : goal.returns-in-Some-clause-told
returns-in-Some-clause-told g c =
    let v = view_of g.T.Tree.table g.J.ServerTransfer.view c.args.self.now in
    on_ok c.hear_line.result (λ e course read is. e course ∙ ap (λ h. heard_by_line h v) (c.in-Some.ensures.read read is ∙ ap read c.line.ensures))
    c.hear_line.ensures.told
