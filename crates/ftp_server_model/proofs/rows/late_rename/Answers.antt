use Rattle.ftp_server_model.proofs.ServerRows.{late_rename}
use Rattle.ftp_server_model.proofs.rows.late_rename.Goals as goal

pub returns : goal.returns
returns c = late_rename
