use Rattle.std.proofs.Common.{◌≡◌, ◌∙◌, true, take, refl, sym, ap, subst, arith}
use Rattle.std.specs.Prelude.{IsTrue}
use Rattle.std.proofs.Math.Seq.{take-length}
use Rattle.ftp_client_model.specs.Calls.{is_sound, may_receive, receives}
use Rattle.ftp_client_model.specs.View.{View}
use Rattle.ftp_client_session.specs.Client.{view_of}
use Rattle.ftp_client_session.proofs.HeardLemmas.{short_alike}
use Rattle.ftp_client_session.proofs.OctetLemmas.{may_receives, receives_stands, short_receives}
use Rattle.ftp_client.proofs.counted.Counted.data_hear.Goals as goal

pub returns-in-Ok-clause-took : goal.returns-in-Ok-clause-took
returns-in-Ok-clause-took g c =
    let v : View = view_of g.F.ClientTransfer.flow c.args.self.now.dialogue in
    let piece = c.args.piece.now in
    let may : may_receive v ≡ true = sym c.may_receive.ensures ∙ c.if-not-may_receive.false in (
      (λ same. (c.in-Ok.ensures.ok may ∙ ap (receives v) (sym (take-length piece)), λ k less. may_receives v (take k piece) ∙ may)),
      (λ other. absurd (other refl)),
    )

pub returns-in-Err-clause-took : goal.returns-in-Err-clause-took
returns-in-Err-clause-took g c =
    let v : View = view_of g.F.ClientTransfer.flow c.args.self.now.dialogue in
    let piece = c.args.piece.now in
    let taken = c.in-Err.taken in
    let may : may_receive v ≡ true = sym c.may_receive.ensures ∙ c.if-not-may_receive.false in
    let left : View = receives v (take taken piece) in (
      (λ same. absurd (c.shorten.ensures.count same)),
      (λ other. record {
        taken = taken;
        least = omega arith;
        most = omega arith;
        may = λ k less. may_receives v (take k piece) ∙ may;
        is = c.shorten.ensures.view
            ∙ short_alike (view_of g.F.ClientTransfer.flow c.receive.new.self) left c.in-Err.ensures.sound
            (subst (λ s. IsTrue (is_sound s)) (sym (receives_stands v (take taken piece))) c.in-Err.ensures.was)
            (c.in-Err.ensures.err ∙ sym (short_receives v (take taken piece)));
      }),
    )
