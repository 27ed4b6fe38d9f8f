use Rattle.ftp_server_model.proofs.ServerRows.{restart_in_pair}
use Rattle.ftp_server_model.proofs.rows.restart_in_pair.Goals as goal

pub returns : goal.returns
returns c = restart_in_pair
