use Rattle.ftp_server_model.proofs.ServerRows.{open_login}
use Rattle.ftp_server_model.proofs.rows.open_login.Goals as goal

pub returns : goal.returns
returns c = open_login
