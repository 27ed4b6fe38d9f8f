use Rattle.std.proofs.Common.{◌∙◌, ap, sym}
use Rattle.ftp_mode.specs.Said.{file_signs}
use Rattle.ftp_mode.specs.Deframing.{part_said}
use Rattle.tool_codec.proofs.Hearing.{file-octets}
use Rattle.tool_codec.proofs.receiving.item_of.Goals as goal

pub returns-in-Data : goal.returns-in-Data
returns-in-Data c text = sym (ap (λ p. file_signs (part_said p text)) c.in-Data.is ∙ file-octets c.in-Data.octets.now)
