use Rattle.ftp_client_model.proofs.ClientRows.{quoted}
use Rattle.ftp_client_model.proofs.rows.quoted.Goals as goal

pub returns : goal.returns
returns c = quoted
