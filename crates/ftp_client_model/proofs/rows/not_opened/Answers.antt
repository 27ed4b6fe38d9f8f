use Rattle.ftp_client_model.proofs.ClientRows.{not_opened}
use Rattle.ftp_client_model.proofs.rows.not_opened.Goals as goal

pub returns : goal.returns
returns c = not_opened
