use Rattle.std.proofs.Common.{◌∙◌, ◌++◌, take, sym, ap, arith}
use Rattle.std.proofs.lemmas.Result.{IfOk-weaker}
use Rattle.ftp_nvt.specs.Ear.{lent_line, event_list}
use Rattle.ftp_nvt.specs.Fold.{ear_of}
use Rattle.ftp_reply.specs.Reader.{line_heard}
use Rattle.ftp_client_model.specs.Calls.{events_taken, line_taken}
use Rattle.ftp_client_model.specs.Telling.{kept_limit, line_behind}
use Rattle.ftp_client_model.specs.View.{View, strange}
use Rattle.ftp_client_steps.specs.Reader.{gathered_in}
use Rattle.ftp_client_steps.proofs.HearingLemmas.{line_comes, octet_comes, led}
use Rattle.ftp_client_steps.proofs.control_reader.Hearing.octet.Goals as goal

pub returns-in-More-clause-comes : goal.returns-in-More-clause-comes
returns-in-More-clause-comes g c = λ v sound ear gathered.
    let new = c.feed-heard.new.self in
    octet_comes c.self.inside.ear new c.self.inside.reader c.self.inside.gathered c.feed-heard.result.event c.args.octet c.feed-heard.result.taken v c.self.invariant
    (c.feed-heard.ensures.some (omega arith)) c.feed-heard.ensures.within c.feed-heard.ensures.hears (ear ∙ sym (ap (λ h. h.ear) c.self.view_is))
    ∙ ap (λ e. events_taken (event_list e (lent_line new)) (record v { ear = ear_of new })) c.in-More.is
    ∙ ap (λ x. let w : View = record v { ear = ear_of new; gathered = x } in w) (gathered ∙ sym (ap (λ h. h.gathered) c.self.view_is))

pub returns-in-Owed-clause-comes : goal.returns-in-Owed-clause-comes
returns-in-Owed-clause-comes g c = λ v sound ear gathered.
    let new = c.feed-heard.new.self in
    octet_comes c.self.inside.ear new c.self.inside.reader c.self.inside.gathered c.feed-heard.result.event c.args.octet c.feed-heard.result.taken v c.self.invariant
    (c.feed-heard.ensures.some (omega arith)) c.feed-heard.ensures.within c.feed-heard.ensures.hears (ear ∙ sym (ap (λ h. h.ear) c.self.view_is))
    ∙ ap (λ e. events_taken (event_list e (lent_line new)) (record v { ear = ear_of new })) c.in-Owed.is
    ∙ ap (λ x. let w : View = record v { ear = ear_of new; gathered = x; owed = v.owed ++ c.in-Owed.answer } in w) (gathered ∙ sym (ap (λ h. h.gathered) c.self.view_is))

pub returns-in-TooLong-clause-comes : goal.returns-in-TooLong-clause-comes
returns-in-TooLong-clause-comes g c = λ v sound ear gathered.
    let new = c.feed-heard.new.self in
    octet_comes c.self.inside.ear new c.self.inside.reader c.self.inside.gathered c.feed-heard.result.event c.args.octet c.feed-heard.result.taken v c.self.invariant
    (c.feed-heard.ensures.some (omega arith)) c.feed-heard.ensures.within c.feed-heard.ensures.hears (ear ∙ sym (ap (λ h. h.ear) c.self.view_is))
    ∙ ap (λ e. events_taken (event_list e (lent_line new)) (record v { ear = ear_of new })) c.in-TooLong.is
    ∙ ap (λ x. strange (record v { ear = ear_of new; gathered = x })) (gathered ∙ sym (ap (λ h. h.gathered) c.self.view_is))

pub returns-in-Line-clause-comes : goal.returns-in-Line-clause-comes
returns-in-Line-clause-comes g c =
    let new = c.feed-heard.new.self in
    IfOk-weaker c.take_line.result _ _ (λ heard leads v sound ear gathered.
    octet_comes c.self.inside.ear new c.self.inside.reader c.self.inside.gathered c.feed-heard.result.event c.args.octet c.feed-heard.result.taken v c.self.invariant
    (c.feed-heard.ensures.some (omega arith)) c.feed-heard.ensures.within c.feed-heard.ensures.hears (ear ∙ sym (ap (λ h. h.ear) c.self.view_is))
    ∙ ap (λ e. events_taken (event_list e (lent_line new)) (record v { ear = ear_of new })) c.in-Line.is
    ∙ ap (λ x. line_taken (line_heard x (lent_line new)) (record v { ear = ear_of new })) (gathered ∙ sym (ap (λ h. h.gathered) c.self.view_is))
    ∙ ap (λ x. line_taken (line_heard (gathered_in c.self.inside.reader) x) (record v { ear = ear_of new })) (sym c.line-line.ensures)
    ∙ led (line_heard (gathered_in c.self.inside.reader) c.line-line.result.now) heard (ear_of new) (gathered_in c.take_line.new.reader) v sound leads)
    c.take_line.ensures.heard

pub returns-in-More-clause-told : goal.returns-in-More-clause-told
returns-in-More-clause-told g c =
    let new = c.feed-heard.new.self in
    sym (
    line_comes c.self.inside.ear new c.self.inside.reader c.self.inside.gathered c.feed-heard.result.event c.args.octet c.feed-heard.result.taken
    c.args.self.now.ear c.args.last.now c.self.invariant
    (c.feed-heard.ensures.some (omega arith)) c.feed-heard.ensures.within c.feed-heard.ensures.hears (sym (ap (λ h. h.ear) c.self.view_is))
    ∙ ap (λ e. line_behind (event_list e (lent_line new)) c.args.last.now) c.in-More.is)

pub returns-in-Owed-clause-told : goal.returns-in-Owed-clause-told
returns-in-Owed-clause-told g c =
    let new = c.feed-heard.new.self in
    sym (
    line_comes c.self.inside.ear new c.self.inside.reader c.self.inside.gathered c.feed-heard.result.event c.args.octet c.feed-heard.result.taken
    c.args.self.now.ear c.args.last.now c.self.invariant
    (c.feed-heard.ensures.some (omega arith)) c.feed-heard.ensures.within c.feed-heard.ensures.hears (sym (ap (λ h. h.ear) c.self.view_is))
    ∙ ap (λ e. line_behind (event_list e (lent_line new)) c.args.last.now) c.in-Owed.is)

pub returns-in-TooLong-clause-told : goal.returns-in-TooLong-clause-told
returns-in-TooLong-clause-told g c =
    let new = c.feed-heard.new.self in
    sym (
    line_comes c.self.inside.ear new c.self.inside.reader c.self.inside.gathered c.feed-heard.result.event c.args.octet c.feed-heard.result.taken
    c.args.self.now.ear c.args.last.now c.self.invariant
    (c.feed-heard.ensures.some (omega arith)) c.feed-heard.ensures.within c.feed-heard.ensures.hears (sym (ap (λ h. h.ear) c.self.view_is))
    ∙ ap (λ e. line_behind (event_list e (lent_line new)) c.args.last.now) c.in-TooLong.is)

pub returns-in-Line-clause-told : goal.returns-in-Line-clause-told
returns-in-Line-clause-told g c =
    let new = c.feed-heard.new.self in
    c.keep.ensures ∙ ap (λ line. take kept_limit line) c.line-line.ensures ∙ sym (
    line_comes c.self.inside.ear new c.self.inside.reader c.self.inside.gathered c.feed-heard.result.event c.args.octet c.feed-heard.result.taken
    c.args.self.now.ear c.args.last.now c.self.invariant
    (c.feed-heard.ensures.some (omega arith)) c.feed-heard.ensures.within c.feed-heard.ensures.hears (sym (ap (λ h. h.ear) c.self.view_is))
    ∙ ap (λ e. line_behind (event_list e (lent_line new)) c.args.last.now) c.in-Line.is)
