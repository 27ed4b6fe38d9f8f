use Rattle.ftp_server_model.proofs.ServerRows.{waiting_line}
use Rattle.ftp_server_model.proofs.rows.waiting_line.Goals as goal

pub returns : goal.returns
returns c = waiting_line
