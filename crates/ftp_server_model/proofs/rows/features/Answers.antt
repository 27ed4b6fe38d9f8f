use Rattle.ftp_server_model.proofs.ServerRows.{features}
use Rattle.ftp_server_model.proofs.rows.features.Goals as goal

pub returns : goal.returns
returns c = features
