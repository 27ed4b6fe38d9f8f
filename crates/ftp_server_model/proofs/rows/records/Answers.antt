use Rattle.ftp_server_model.proofs.ServerRows.{records}
use Rattle.ftp_server_model.proofs.rows.records.Goals as goal

pub returns : goal.returns
returns c = records
