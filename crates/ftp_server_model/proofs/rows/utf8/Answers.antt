use Rattle.ftp_server_model.proofs.ServerRows.{utf8}
use Rattle.ftp_server_model.proofs.rows.utf8.Goals as goal

pub returns : goal.returns
returns c = utf8
