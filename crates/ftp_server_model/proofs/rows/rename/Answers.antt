use Rattle.ftp_server_model.proofs.ServerRows.{rename}
use Rattle.ftp_server_model.proofs.rows.rename.Goals as goal

pub returns : goal.returns
returns c = rename
