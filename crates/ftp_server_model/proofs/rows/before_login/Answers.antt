use Rattle.ftp_server_model.proofs.ServerRows.{before_login}
use Rattle.ftp_server_model.proofs.rows.before_login.Goals as goal

pub returns : goal.returns
returns c = before_login
