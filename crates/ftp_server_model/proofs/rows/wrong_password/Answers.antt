use Rattle.ftp_server_model.proofs.ServerRows.{wrong_password}
use Rattle.ftp_server_model.proofs.rows.wrong_password.Goals as goal

pub returns : goal.returns
returns c = wrong_password
