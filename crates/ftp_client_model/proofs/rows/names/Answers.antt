use Rattle.ftp_client_model.proofs.ClientRows.{names}
use Rattle.ftp_client_model.proofs.rows.names.Goals as goal

pub returns : goal.returns
returns c = names
