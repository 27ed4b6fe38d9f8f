use Rattle.std.proofs.Common.{◌∙◌, ◌<◌, length, slice_index, sym, ap, subst, arith}
use Rattle.std.specs.Prelude.{IsTrue}
use Rattle.ftp_client_model.specs.Calls.{hears_octet, may_hear}
use Rattle.ftp_client_model.specs.View.{View}
use Rattle.ftp_client.specs.Counted.{counted_of}
use Rattle.ftp_client.proofs.HeardLemmas.{hears_next, line_goes, may_more, ok_at, sound_of}
use Rattle.ftp_client.proofs.counted.Counted.hear.Goals as goal

pub loop-taken-preserved : goal.loop-taken-preserved
loop-taken-preserved g c =
    let v : View = (counted_of g.F.ClientTransfer.flow c.args.self.now).view in
    let n = c.loop-taken.taken in
    let piece = c.args.piece.now in
    let sound = sound_of (counted_of g.F.ClientTransfer.flow c.loop-taken.self).view (sym c.may_hear.ensures ∙ c.if-may_hear.true) in
    let less : n < length piece = omega (arith, c.loop-taken-test.true) in
    record {
      within = omega arith;
      count = c.loop-taken.invariant.count;
      view = ok_at c.hear_octet.result _ (sym c.is_err.ensures.value ∙ c.if-is_err.false) (c.hear_octet.ensures.ok sound)
          ∙ ap (λ w. hears_octet w (slice_index piece n)) c.loop-taken.invariant.view
          ∙ sym (hears_next v piece n less);
      line = line_goes v _ piece n _ _ _ less c.loop-taken.invariant.view c.loop-taken.invariant.line (c.hear_octet.ensures.told sound);
      may = may_more v piece n c.loop-taken.invariant.may
          (subst (λ w. IsTrue (may_hear w)) c.loop-taken.invariant.view (sym c.may_hear.ensures ∙ c.if-may_hear.true));
    }

pub returns-then-is_err-clause-told : goal.returns-then-is_err-clause-told
returns-then-is_err-clause-told g c =
    let v : View = (counted_of g.F.ClientTransfer.flow c.args.self.now).view in
    let n = c.loop-taken.taken in
    let piece = c.args.piece.now in
    let sound = sound_of (counted_of g.F.ClientTransfer.flow c.loop-taken.self).view (sym c.may_hear.ensures ∙ c.if-may_hear.true) in
    let less : n < length piece = omega (arith, c.loop-taken-test.true) in
    line_goes v _ piece n _ _ _ less c.loop-taken.invariant.view c.loop-taken.invariant.line (c.hear_octet.ensures.told sound)
