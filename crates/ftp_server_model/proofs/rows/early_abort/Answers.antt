use Rattle.ftp_server_model.proofs.ServerRows.{early_abort}
use Rattle.ftp_server_model.proofs.rows.early_abort.Goals as goal

pub returns : goal.returns
returns c = early_abort
