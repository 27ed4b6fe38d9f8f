use Rattle.ftp_client_model.proofs.ClientRows.{rename}
use Rattle.ftp_client_model.proofs.rows.rename.Goals as goal

pub returns : goal.returns
returns c = rename
