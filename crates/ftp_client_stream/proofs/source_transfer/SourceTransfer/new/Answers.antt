use Rattle.std.proofs.Common.{◌∙◌}
use Rattle.ftp_client_stream.proofs.source_transfer.SourceTransfer.new.Goals as goal

pub returns-clause-text : goal.returns-clause-text
returns-clause-text g c file can = c.with_room.ensures.text file ∙ c.encoder_of.ensures file can
