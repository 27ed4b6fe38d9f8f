use Rattle.std.proofs.Common.{◌≡◌, ◌+◌, ◌-◌, ◌<◌, ℕ, List, length, take, drop, refl, sym, ap, subst, ◌∙◌, arith, rules, length-append, length-drop}
use Rattle.std.proofs.lemmas.List.{drop-drop}
use Rattle.ftp_repr.specs.Signs.{Sign}
use Rattle.ftp_repr.specs.Items.{signs}
use Rattle.ftp_repr.specs.Received.{Lends, lent_octets, receiver_form, taking_at_stage}
use Rattle.ftp_mode.specs.Deframing.{reading}
use Rattle.ftp_wire.specs.Taking.{decoder_at, settled, Stops}
use Rattle.ftp_wire.proofs.SettleLemmas.{stops_at, settles_on, settled-add}
use Rattle.ftp_wire.proofs.intake.Intake.settle.Goals as goal

pub returns-in-Err-clause-err : goal.returns-in-Err-clause-err
returns-in-Err-clause-err g c =
    let octets = g.S.Sink.octets in
    let ss = signs c.args.item in
    let left = signs c.loop-item.rest in
    let done = length ss - length left in
    let most = length (octets c.args.self.now.sink) + c.args.room.now in
    let inv = c.loop-item.invariant in
    let some : 0 < length left = search rules in
    let at : done ≡ c.len.result - c.len-in-loop-item.result = omega (arith, c.len.ensures, c.len-in-loop-item.ensures) in
    let P : List Sign → Type 0 = λ l. Lends c.loop-item.self.receiver l c.next-lent.result c.next-lent.new.self in
    let Q : List Sign → Type 0 = λ l. 0 < length l in
    let R : ℕ → Type 0 = λ n. Stops most (decoder_at octets c.args.self.now) ss (record { at = n + c.in-Err.stopped.at; heard = c.in-Err.stopped.heard }) in
    subst R at
    (stops_at most c.loop-item.room done (decoder_at octets c.args.self.now) (decoder_at octets c.loop-item.self) c.loop-item.self.receiver c.next-lent.new.self ss c.next-lent.result c.in-Err.stopped
    inv.decoder (omega arith) (subst Q inv.rest some) refl refl (subst P inv.rest c.next-lent.ensures) inv.room c.in-Err.ensures.err)

pub loop-item-preserved : goal.loop-item-preserved
loop-item-preserved g c =
    let octets = g.S.Sink.octets in
    let ss = signs c.args.item in
    let left = signs c.loop-item.rest in
    let done = length ss - length left in
    let inv = c.loop-item.invariant in
    let lent = c.next-lent.result in
    let lends = c.next-lent.ensures in
    let d = decoder_at octets c.args.self.now in
    let e = decoder_at octets c.loop-item.self in
    let new = c.grow.new.self in
    let readers = c.grow.ensures.readers in
    let put = c.in_default.ensures.ok in
    let len = ap length lends.rest in
    let cut = length-drop lent.taken left in
    let place : length ss - length (signs lent.rest) ≡ done + lent.taken = omega (arith, inv.within, lends.within, len, cut) in
    record {
      within = omega (arith, inv.within, len, cut);
      rest = lends.rest ∙ ap (drop lent.taken) inv.rest ∙ drop-drop lent.taken done ss ∙ ap (λ n. drop n ss) (sym place);
      deframer = readers.0 ∙ inv.deframer;
      decoder = settles_on e (decoder_at octets new) c.loop-item.self.receiver c.next-lent.new.self left lent refl refl lends
          (ap receiver_form readers.1) (ap reading readers.0) (ap taking_at_stage readers.1) put
          ∙ ap (λ l. settled e (take lent.taken l)) inv.rest
          ∙ ap (λ x. settled x (take lent.taken (drop done ss))) inv.decoder
          ∙ sym (settled-add d ss done lent.taken) ∙ ap (λ n. settled d (take n ss)) (sym place);
      room = omega (arith, c.in_default.ensures.room, inv.room, ap length put, length-append (octets c.loop-item.self.sink) (lent_octets lent));
    }
