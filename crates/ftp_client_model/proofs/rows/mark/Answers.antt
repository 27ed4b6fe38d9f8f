use Rattle.ftp_client_model.proofs.ClientRows.{mark}
use Rattle.ftp_client_model.proofs.rows.mark.Goals as goal

pub returns : goal.returns
returns c = mark
