use Rattle.ftp_server_model.proofs.ServerRows.{names}
use Rattle.ftp_server_model.proofs.rows.names.Goals as goal

pub returns : goal.returns
returns c = names
