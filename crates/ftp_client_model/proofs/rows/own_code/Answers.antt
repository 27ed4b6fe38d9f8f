use Rattle.ftp_client_model.proofs.ClientRows.{own_code}
use Rattle.ftp_client_model.proofs.rows.own_code.Goals as goal

pub returns : goal.returns
returns c = own_code
