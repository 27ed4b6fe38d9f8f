use Rattle.ftp_server_model.proofs.ServerUploads.{too_much}
use Rattle.ftp_server_model.proofs.rows.too_much.Goals as goal

pub returns : goal.returns
returns c = too_much
