use Rattle.ftp_server_model.proofs.ServerUploads.{early_end}
use Rattle.ftp_server_model.proofs.rows.early_end.Goals as goal

pub returns : goal.returns
returns c = early_end
