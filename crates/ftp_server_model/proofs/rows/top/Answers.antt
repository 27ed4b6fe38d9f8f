use Rattle.ftp_server_model.proofs.ServerRows.{top}
use Rattle.ftp_server_model.proofs.rows.top.Goals as goal

pub returns : goal.returns
returns c = top
