use Rattle.ftp_server_model.proofs.ServerRows.{reinitialized}
use Rattle.ftp_server_model.proofs.rows.reinitialized.Goals as goal

pub returns : goal.returns
returns c = reinitialized
