use Rattle.ftp_client_model.proofs.ClientRows.{unasked}
use Rattle.ftp_client_model.proofs.rows.unasked.Goals as goal

pub returns : goal.returns
returns c = unasked
