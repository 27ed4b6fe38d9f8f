use Rattle.std.proofs.Common.{◌∙◌, ◌++◌, sym, ap}
use Rattle.ftp_client_model.specs.Dialogue.{answered}
use Rattle.ftp_client_model.specs.View.{View, strange}
use Rattle.ftp_client_steps.specs.Comes.{acts}
use Rattle.ftp_client_session.specs.Client.{view_of}
use Rattle.ftp_client_session.proofs.HeardLemmas.{ear_is, gathered_is, seen}
use Rattle.ftp_client_session.proofs.dialogue.Dialogue.hear.Goals as goal

pub returns-in-Nothing-clause-ok : goal.returns-in-Nothing-clause-ok
returns-in-Nothing-clause-ok g c =
    let d = c.args.self.now in
    let v : View = view_of g.F.ClientTransfer.flow d in
    let held = c.octet.new.self in
    seen d.standing c.requires held.ear held.gathered v
    ∙ ap (λ h. acts h held v) (sym c.in-Nothing.is)
    ∙ sym (c.in-Ok.ensures.comes v c.requires (ear_is d.standing c.requires d.hearing.ear) (gathered_is d.standing c.requires d.hearing.gathered))

pub returns-in-Ok-put-clause-ok : goal.returns-in-Ok-put-clause-ok
returns-in-Ok-put-clause-ok g c =
    let d = c.args.self.now in
    let v : View = view_of g.F.ClientTransfer.flow d in
    let held = c.octet.new.self in
    ap (λ o. let w : View = record (view_of g.F.ClientTransfer.flow (record d { hearing = held })) { owed = o } in w) c.in-Ok-put.ensures.ok
    ∙ seen d.standing c.requires held.ear held.gathered (record v { owed = d.output ++ c.in-Owed.answer })
    ∙ ap (λ h. acts h held v) (sym c.in-Owed.is)
    ∙ sym (c.in-Ok.ensures.comes v c.requires (ear_is d.standing c.requires d.hearing.ear) (gathered_is d.standing c.requires d.hearing.gathered))

pub returns-in-Reply-clause-ok : goal.returns-in-Reply-clause-ok
returns-in-Reply-clause-ok g c =
    let d = c.args.self.now in
    let v : View = view_of g.F.ClientTransfer.flow d in
    let held = c.octet.new.self in
    ap (λ w. answered c.in-Reply.reply.code c.in-Reply.reply.lines w) (seen d.standing c.requires held.ear held.gathered v)
    ∙ ap (λ h. acts h held v) (sym c.in-Reply.is)
    ∙ sym (c.in-Ok.ensures.comes v c.requires (ear_is d.standing c.requires d.hearing.ear) (gathered_is d.standing c.requires d.hearing.gathered))

pub returns-in-Misplaced-clause-ok : goal.returns-in-Misplaced-clause-ok
returns-in-Misplaced-clause-ok g c =
    let d = c.args.self.now in
    let v : View = view_of g.F.ClientTransfer.flow d in
    let held = c.octet.new.self in
    c.strange.ensures
    ∙ ap (λ w. strange w) (seen d.standing c.requires held.ear held.gathered v)
    ∙ ap (λ h. acts h held v) (sym c.in-Misplaced.is)
    ∙ sym (c.in-Ok.ensures.comes v c.requires (ear_is d.standing c.requires d.hearing.ear) (gathered_is d.standing c.requires d.hearing.gathered))
