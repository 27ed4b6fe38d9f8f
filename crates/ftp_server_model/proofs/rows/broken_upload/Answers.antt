use Rattle.ftp_server_model.proofs.ServerUploads.{broken_upload}
use Rattle.ftp_server_model.proofs.rows.broken_upload.Goals as goal

pub returns : goal.returns
returns c = broken_upload
