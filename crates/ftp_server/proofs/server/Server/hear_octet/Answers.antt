use Rattle.std.proofs.Common.{None, refl, subst, ap, ◌∙◌}
use Rattle.ftp_ends.specs.Ear.{Ear, ear_out, ear_step}
use Rattle.ftp_nvt.specs.Ear.{lent_line}
use Rattle.ftp_nvt.specs.Fold.{ear_of}
use Rattle.ftp_nvt.specs.Lines.{line, too_long}
use Rattle.ftp_server_model.specs.Failing.{LineIsHeard}
use Rattle.ftp_server_model.specs.Heard.{heard_by_events, heard_by_line, heard_by_octet}
use Rattle.ftp_server_model.specs.Machine.{heard_events, heard_line, hears_octet}
use Rattle.ftp_server_model.specs.View.{View, line_limit}
use Rattle.ftp_server_model.specs.declared.heard.HeardLine.TheVariants.{TooLong}
use Rattle.ftp_server.proofs.HearLemmas.{line_not_done, on_err, on_ok, one_event}
use Rattle.ftp_server.specs.Server.{view_of}
use Rattle.ftp_server.proofs.server.Server.hear_octet.Goals as goal

abbrev with_ear : View → Ear → View
with_ear v e = record v { ear = e }

pub returns-in-Line-clause-lost : goal.returns-in-Line-clause-lost
returns-in-Line-clause-lost g c =
    let v = view_of g.T.Tree.table g.J.ServerTransfer.view c.args.self.now in let w = view_of g.T.Tree.table g.J.ServerTransfer.view c.hear_text.new.self in
    let text = lent_line c.hear.new.self.ear in
    on_err c.hear_text.result
    (λ h course read is. one_event read (line text) (ear_out line_limit v.ear c.args.octet) (with_ear v (ear_step line_limit v.ear c.args.octet)) w c.in-Line.ensures.out
    (subst (λ e. LineIsHeard (read text) (with_ear v e) w) c.hear.ensures.step (h course read is)))
    c.hear_text.ensures.lost

pub returns-in-TooLong-clause-lost : goal.returns-in-TooLong-clause-lost
returns-in-TooLong-clause-lost g c =
    let v = view_of g.T.Tree.table g.J.ServerTransfer.view c.args.self.now in let w = view_of g.T.Tree.table g.J.ServerTransfer.view c.hear_line.new.self in
    on_err c.hear_line.result
    (λ h course read is. one_event read too_long (ear_out line_limit v.ear c.args.octet) (with_ear v (ear_step line_limit v.ear c.args.octet)) w c.in-TooLong.ensures.out
    (subst (λ e. LineIsHeard TooLong (with_ear v e) w) c.hear.ensures.step
    (line_not_done TooLong TooLong (with_ear v (ear_of c.hear.new.self.ear)) w refl (h course))))
    c.hear_line.ensures.lost

pub returns-in-Line-clause-done : goal.returns-in-Line-clause-done
unfolding hears_octet
returns-in-Line-clause-done g c =
    let v = view_of g.T.Tree.table g.J.ServerTransfer.view c.args.self.now in
    let text = lent_line c.hear.new.self.ear in
    on_ok c.hear_text.result
    (λ e course read is. e course read is ∙ ap (λ k. heard_line (read text) (with_ear v k)) c.hear.ensures.step
    ∙ ap (λ events. heard_events read events (with_ear v (ear_step line_limit v.ear c.args.octet))) c.in-Line.ensures.out)
    c.hear_text.ensures.done

pub returns-in-Line-clause-told : goal.returns-in-Line-clause-told
unfolding heard_by_octet
returns-in-Line-clause-told g c =
    let v = view_of g.T.Tree.table g.J.ServerTransfer.view c.args.self.now in
    let text = lent_line c.hear.new.self.ear in
    on_ok c.hear_text.result
    (λ e course read is. e course read is ∙ ap (λ k. heard_by_line (read text) (with_ear v k)) c.hear.ensures.step
    ∙ ap (λ events. heard_by_events read None events (with_ear v (ear_step line_limit v.ear c.args.octet))) c.in-Line.ensures.out)
    c.hear_text.ensures.told

pub returns-in-TooLong-clause-done : goal.returns-in-TooLong-clause-done
unfolding hears_octet
returns-in-TooLong-clause-done g c =
    let v = view_of g.T.Tree.table g.J.ServerTransfer.view c.args.self.now in
    on_ok c.hear_line.result
    (λ e course read is. e course ∙ ap (λ k. heard_line TooLong (with_ear v k)) c.hear.ensures.step
    ∙ ap (λ events. heard_events read events (with_ear v (ear_step line_limit v.ear c.args.octet))) c.in-TooLong.ensures.out)
    c.hear_line.ensures.done

pub returns-in-TooLong-clause-told : goal.returns-in-TooLong-clause-told
unfolding heard_by_octet
returns-in-TooLong-clause-told g c =
    let v = view_of g.T.Tree.table g.J.ServerTransfer.view c.args.self.now in
    on_ok c.hear_line.result
    (λ e course read is. e course ∙ ap (λ k. heard_by_line TooLong (with_ear v k)) c.hear.ensures.step
    ∙ ap (λ events. heard_by_events read None events (with_ear v (ear_step line_limit v.ear c.args.octet))) c.in-TooLong.ensures.out)
    c.hear_line.ensures.told
