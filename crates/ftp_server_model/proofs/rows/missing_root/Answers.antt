use Rattle.ftp_server_model.proofs.ServerRows.{missing_root}
use Rattle.ftp_server_model.proofs.rows.missing_root.Goals as goal

pub returns : goal.returns
returns c = missing_root
