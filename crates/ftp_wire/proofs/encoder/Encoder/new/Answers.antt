use Rattle.std.proofs.Common.{◌∙◌}
use Rattle.ftp_settings.specs.Representation.{form_of}
use Rattle.ftp_mode.specs.Writing.{blank_writing}
use Rattle.ftp_mode.proofs.WrittenLemmas.{writes_wire}
use Rattle.ftp_wire.proofs.EncodingLemmas.{starts}
use Rattle.ftp_wire.proofs.encoder.Encoder.new.Goals as goal

pub returns-clause-text : goal.returns-clause-text
returns-clause-text c = λ file.
    let r = c.args.settings in
    starts c.new-2.result c.new.result (blank_writing r.mode r.structure) (form_of r) file c.new-2.ensures.owes c.new-2.ensures.state c.new.ensures.fresh c.new.ensures.form
    ∙ writes_wire r.mode (form_of r) file
