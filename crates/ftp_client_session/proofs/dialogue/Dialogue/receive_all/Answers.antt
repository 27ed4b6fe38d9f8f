use Rattle.std.proofs.Common.{◌∙◌, take, drop, sym, ap, arith}
use Rattle.std.proofs.Math.Seq.{take-add}
use Rattle.ftp_client_model.specs.Calls.{may_receive, receives}
use Rattle.ftp_client_model.specs.View.{View}
use Rattle.ftp_client_session.specs.Client.{shorted, view_of}
use Rattle.ftp_client_session.proofs.OctetLemmas.{may_receives, receives_append, short_receives}
use Rattle.ftp_client_session.proofs.dialogue.Dialogue.receive_all.Goals as goal

pub loop-at-preserved : goal.loop-at-preserved
loop-at-preserved g c =
    let v : View = view_of g.F.ClientTransfer.flow c.args.self.now in
    let now : View = view_of g.F.ClientTransfer.flow c.loop-at.self in
    let piece = c.args.piece.now in
    let at = c.loop-at.at in
    let count = c.in-Ok.count in
    record {
      within = omega (arith, c.split_at.ensures.back_len, c.in-Ok.ensures.within.1);
      standing = c.receive_some.ensures.standing ∙ c.loop-at.invariant.standing;
      view = c.in-Ok.ensures.ok
          ∙ ap (λ rest. receives now (take count rest)) c.split_at.ensures.back
          ∙ ap (λ w. receives w (take count (drop at piece))) c.loop-at.invariant.view
          ∙ sym (receives_append v (take at piece) (take count (drop at piece)))
          ∙ ap (receives v) (sym (take-add at count piece));
      may = ap may_receive c.in-Ok.ensures.ok ∙ may_receives now (take count c.split_at.result.1.now) ∙ c.loop-at.invariant.may;
    }

pub returns-in-Err-clause-err : goal.returns-in-Err-clause-err
returns-in-Err-clause-err g c =
    let v : View = view_of g.F.ClientTransfer.flow c.args.self.now in
    c.in-Err.ensures.err ∙ ap shorted c.loop-at.invariant.view ∙ short_receives v (take c.loop-at.at c.args.piece.now)
