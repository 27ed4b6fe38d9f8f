use Rattle.ftp_server_model.proofs.ServerRows.{foreign_opener}
use Rattle.ftp_server_model.proofs.rows.foreign_opener.Goals as goal

pub returns : goal.returns
returns c = foreign_opener
