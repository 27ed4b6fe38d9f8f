use Rattle.ftp_server_model.proofs.ServerRows.{restart_in_records}
use Rattle.ftp_server_model.proofs.rows.restart_in_records.Goals as goal

pub returns : goal.returns
returns c = restart_in_records
