use Rattle.ftp_server_model.proofs.ServerRows.{login}
use Rattle.ftp_server_model.proofs.rows.login.Goals as goal

pub returns : goal.returns
returns c = login
