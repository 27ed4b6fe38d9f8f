use Rattle.ftp_server_model.proofs.ServerRows.{restart}
use Rattle.ftp_server_model.proofs.rows.restart.Goals as goal

pub returns : goal.returns
returns c = restart
