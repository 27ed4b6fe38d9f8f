use Rattle.ftp_server_model.proofs.ServerUploads.{abort}
use Rattle.ftp_server_model.proofs.rows.abort.Goals as goal

pub returns : goal.returns
returns c = abort
