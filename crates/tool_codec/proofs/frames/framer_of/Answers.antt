use Rattle.std.proofs.Common.{ap, sym}
use Rattle.std.specs.Prelude.{◌&&◌}
use Rattle.ftp_settings.specs.Representation.{has_markers}
use Rattle.tool_codec.proofs.Framing.{text_plain, text_marked, has_none}
use Rattle.tool_codec.proofs.frames.framer_of.Goals as goal
use Rattle.tool_codec.proofs.frames.framer_of.Goals.{else-marks-via-then-marks+else-has_markers, else-marks-via-else-marks}

pub returns-then-has_markers-clause-text : goal.returns-then-has_markers-clause-text
returns-then-has_markers-clause-text c = λ file fits.
    text_marked c.args.form c.args.marks c.new-framer.result c.mark.new.self c.new-framer.ensures.state c.mark.ensures.state c.if-marks.true (sym c.if-has_markers.ensures) file fits

pub returns-else-marks-clause-text : goal.returns-else-marks-clause-text
returns-else-marks-clause-text c = λ file fits.
    text_plain c.args.form c.args.marks c.new-framer.result c.new-framer.ensures.state
    (elim c.else-marks.branch [
      | else-marks-via-then-marks+else-has_markers w ↦ has_none c.args.marks (has_markers c.args.form) (sym w.if-has_markers.ensures)
      | else-marks-via-else-marks w ↦ ap (λ asked. asked && has_markers c.args.form) w.if-marks.false
    ])
    file
