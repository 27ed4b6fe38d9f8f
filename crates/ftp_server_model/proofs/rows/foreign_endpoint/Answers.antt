use Rattle.ftp_server_model.proofs.ServerRows.{foreign_endpoint}
use Rattle.ftp_server_model.proofs.rows.foreign_endpoint.Goals as goal

pub returns : goal.returns
returns c = foreign_endpoint
