use Rattle.ftp_server_model.proofs.ServerRows.{made}
use Rattle.ftp_server_model.proofs.rows.made.Goals as goal

pub returns : goal.returns
returns c = made
