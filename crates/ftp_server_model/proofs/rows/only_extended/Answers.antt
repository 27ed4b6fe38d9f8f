use Rattle.ftp_server_model.proofs.ServerRows.{only_extended}
use Rattle.ftp_server_model.proofs.rows.only_extended.Goals as goal

pub returns : goal.returns
returns c = only_extended
