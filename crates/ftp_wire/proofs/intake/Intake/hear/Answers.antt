use Rattle.std.proofs.Common.{◌≡◌, ◌+◌, ◌<◌, ◌++◌, ℕ, List, Option, None, length, take, sym, ap, subst, ◌∙◌, arith}
use Rattle.std.proofs.Math.Seq.{take-add}
use Rattle.std.proofs.lemmas.List.{length-take-le}
use Rattle.ftp_mode.specs.Deframing.{last_marker}
use Rattle.ftp_wire.specs.Decoder.{Decoder, decoded}
use Rattle.ftp_wire.specs.Hearing.{AreQuiet, Hears, TellsNothing}
use Rattle.ftp_wire.specs.Taking.{decoder_at}
use Rattle.ftp_wire.specs.declared.decoded.Decoded.{Decoded}
use Rattle.ftp_wire.proofs.HearLemmas.{quiet_all, hears_join, hears_quiet, quiet-append, decoded-append}
use Rattle.ftp_wire.proofs.intake.Intake.hear.Goals as goal

pub returns-clause-hears : goal.returns-clause-hears
returns-clause-hears g c =
    let octets = g.S.Sink.octets in
    quiet_all (length (octets c.args.self.now.sink) + c.args.room) (decoder_at octets c.args.self.now) (take c.loop-at.at c.args.piece.now) (last_marker c.loop-at.self.deframer)
    (decoder_at octets c.loop-at.self) c.loop-at.invariant.quiet c.loop-at.invariant.decoder

pub returns-then-not-tells_nothing-clause-hears : goal.returns-then-not-tells_nothing-clause-hears
returns-then-not-tells_nothing-clause-hears g c =
    let octets = g.S.Sink.octets in
    let d = decoder_at octets c.args.self.now in
    let most = length (octets c.args.self.now.sink) + c.args.room in
    let piece = c.args.piece.now in
    let at = c.loop-at.at in
    let rest = c.split_at.result.1.now in
    let taken = c.step-taken.result in
    let new = c.step-taken.new.self in
    let inv = c.loop-at.invariant in
    let some : 0 < length (take taken.count rest) = omega (arith, c.step-taken.ensures.some, length-take-le taken.count rest c.step-taken.ensures.within) in
    let M : ℕ → Type 0 = λ m. Hears m (decoder_at octets c.loop-at.self) (take taken.count rest) taken.mark (last_marker new.deframer) taken.heard (decoder_at octets new) in
    let D : Decoder → Type 0 = λ x. Hears most x (take taken.count rest) taken.mark (last_marker new.deframer) taken.heard (decoder_at octets new) in
    let W : List ℕ → Type 0 = λ l. Hears most d l taken.mark (last_marker new.deframer) taken.heard (decoder_at octets new) in
    let joined : take at piece ++ take taken.count rest ≡ take (at + taken.count) piece =
    ap (λ l. take at piece ++ take taken.count l) c.split_at.ensures.back ∙ sym (take-add at taken.count piece) in
    subst W joined
    (hears_join most d (take at piece) (take taken.count rest) taken.mark (last_marker new.deframer) taken.heard (decoder_at octets new) some inv.quiet
    (subst D inv.decoder (subst M inv.left c.step-taken.ensures.hears)))

pub loop-at-preserved : goal.loop-at-preserved
loop-at-preserved g c =
    let octets = g.S.Sink.octets in
    let d = decoder_at octets c.args.self.now in
    let most = length (octets c.args.self.now.sink) + c.args.room in
    let piece = c.args.piece.now in
    let at = c.loop-at.at in
    let rest = c.split_at.result.1.now in
    let taken = c.step-taken.result in
    let new = c.step-taken.new.self in
    let inv = c.loop-at.invariant in
    let nothing : TellsNothing taken.mark taken.heard = c.tells_nothing.ensures.1 c.if-not-tells_nothing.false in
    let M : ℕ → Type 0 = λ m. Hears m (decoder_at octets c.loop-at.self) (take taken.count rest) taken.mark (last_marker new.deframer) taken.heard (decoder_at octets new) in
    let D : Decoder → Type 0 = λ x. Hears most x (take taken.count rest) taken.mark (last_marker new.deframer) taken.heard (decoder_at octets new) in
    let K : Option ℕ → Type 0 = λ m. Hears most (decoded d (take at piece)) (take taken.count rest) m (last_marker new.deframer) taken.heard (decoder_at octets new) in
    let H : Decoded → Type 0 = λ h. Hears most (decoded d (take at piece)) (take taken.count rest) None (last_marker new.deframer) h (decoder_at octets new) in
    let quiet = hears_quiet most (decoded d (take at piece)) (take taken.count rest) (last_marker new.deframer) (decoder_at octets new)
    (subst H nothing.1 (subst K nothing.0 (subst D inv.decoder (subst M inv.left c.step-taken.ensures.hears)))) in
    let joined : take at piece ++ take taken.count rest ≡ take (at + taken.count) piece =
    ap (λ l. take at piece ++ take taken.count l) c.split_at.ensures.back ∙ sym (take-add at taken.count piece) in
    let Q : List ℕ → Type 0 = λ l. AreQuiet most d l in
    record {
      within = omega (arith, c.step-taken.ensures.within, c.split_at.ensures.back_len, inv.within);
      owes = c.step-taken.ensures.owes nothing;
      quiet = subst Q joined (quiet-append most d (take at piece) (take taken.count rest) inv.quiet quiet.0);
      decoder = quiet.1 ∙ sym (decoded-append d (take at piece) (take taken.count rest)) ∙ ap (decoded d) joined;
      left = c.step-taken.ensures.room nothing ∙ inv.left;
    }
