use Rattle.ftp_server_model.proofs.ServerRows.{no_directory}
use Rattle.ftp_server_model.proofs.rows.no_directory.Goals as goal

pub returns : goal.returns
returns c = no_directory
