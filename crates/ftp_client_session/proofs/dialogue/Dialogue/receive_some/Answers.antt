use Rattle.std.proofs.Common.{◌∙◌, ◌<◌, length, take, sym, ap, arith}
use Rattle.std.proofs.lemmas.List.{length-take-le}
use Rattle.ftp_client_model.specs.Dialogue.{aborts_once_enough}
use Rattle.ftp_client_model.specs.View.{View}
use Rattle.ftp_client_session.specs.Client.{job_of, view_of}
use Rattle.ftp_client_session.proofs.CarryLemmas.{aborts_stands}
use Rattle.ftp_client_session.proofs.OctetLemmas.{dropped, received}
use Rattle.ftp_client_session.proofs.dialogue.Dialogue.receive_some.Goals as goal

pub returns-then-not-is_unsent-clause-ok : goal.returns-then-not-is_unsent-clause-ok
returns-then-not-is_unsent-clause-ok g c =
    let v : View = view_of g.F.ClientTransfer.flow c.args.self.now in
    let piece = c.args.piece.now in
    sym (dropped v (take (length piece) piece) (sym c.is_unsent.ensures ∙ c.if-not-is_unsent.true))

pub returns-in-Ok-abort_once_enough-clause-ok : goal.returns-in-Ok-abort_once_enough-clause-ok
returns-in-Ok-abort_once_enough-clause-ok g c =
    let d = c.args.self.now in
    let v : View = view_of g.F.ClientTransfer.flow d in
    let piece = c.args.piece.now in
    let count = c.in-Ok.count in
    let some : 0 < length (take count piece) =
    omega (arith, c.in-Ok.ensures.some c.requires.some, length-take-le count piece c.in-Ok.ensures.within.0) in
    c.in-Ok-abort_once_enough.ensures.ok
    ∙ ap (λ job. let u : View = record v { job = job } in aborts_once_enough job u) c.in-Ok.ensures.heard
    ∙ sym (received v (take count piece) (sym c.is_unsent.ensures ∙ c.if-not-is_unsent.false) some c.in-Ok.ensures.within.1)

pub returns-in-Ok-abort_once_enough-clause-standing : goal.returns-in-Ok-abort_once_enough-clause-standing
returns-in-Ok-abort_once_enough-clause-standing g c =
    let d = c.args.self.now in
    let v : View = view_of g.F.ClientTransfer.flow d in
    let job = job_of g.F.ClientTransfer.flow d.op c.hear.new.self in
    ap (λ (u : View). u.standing) c.in-Ok-abort_once_enough.ensures.ok
    ∙ aborts_stands job (record v { job = job })
