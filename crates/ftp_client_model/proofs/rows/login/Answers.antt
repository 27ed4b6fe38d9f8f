use Rattle.ftp_client_model.proofs.ClientRows.{login}
use Rattle.ftp_client_model.proofs.rows.login.Goals as goal

pub returns : goal.returns
returns c = login
