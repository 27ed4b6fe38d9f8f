use Rattle.ftp_server_model.proofs.ServerRows.{late_restart}
use Rattle.ftp_server_model.proofs.rows.late_restart.Goals as goal

pub returns : goal.returns
returns c = late_restart
