use Rattle.ftp_server_model.proofs.ServerRows.{quit}
use Rattle.ftp_server_model.proofs.rows.quit.Goals as goal

pub returns : goal.returns
returns c = quit
