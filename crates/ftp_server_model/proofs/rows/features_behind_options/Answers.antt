use Rattle.ftp_server_model.proofs.ServerRows.{features_behind_options}
use Rattle.ftp_server_model.proofs.rows.features_behind_options.Goals as goal

pub returns : goal.returns
returns c = features_behind_options
