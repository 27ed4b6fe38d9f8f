use Rattle.std.proofs.Common.{ap, sym, ◌∙◌}
use Rattle.ftp_mode.specs.Writing.{with_marks}
use Rattle.ftp_mode.specs.Framing.{owed_octets, writing}
use Rattle.ftp_wire.proofs.EncodingLemmas.{text_plain, text_marked}
use Rattle.ftp_wire.proofs.encoder.Encoder.marked.Goals.{then-has_markers, else-has_markers}
use Rattle.ftp_wire.proofs.encoder.Encoder.marked.Goals as goal

pub returns-clause-text : goal.returns-clause-text
returns-clause-text c = λ file fits.
    let r = c.args.settings in
    elim c.if-has_markers.branch [
      | then-has_markers w ↦ text_marked r c.if-has_markers.framer c.new.result c.args.start file
          (ap owed_octets w.framer-is ∙ w.mark.ensures.owes ∙ c.new-framer.ensures.owes) c.new.ensures.fresh c.new.ensures.form (sym c.has_markers.ensures ∙ w.if-has_markers.true)
          (ap writing w.framer-is ∙ w.mark.ensures.state ∙ ap (with_marks c.args.start) c.new-framer.ensures.state) fits
      | else-has_markers w ↦ text_plain r c.if-has_markers.framer c.new.result c.args.start file
          (ap owed_octets w.framer-is ∙ c.new-framer.ensures.owes) c.new.ensures.fresh c.new.ensures.form (sym c.has_markers.ensures ∙ w.if-has_markers.false)
          (ap writing w.framer-is ∙ c.new-framer.ensures.state)
    ]
