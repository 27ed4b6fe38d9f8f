use Rattle.ftp_server_model.proofs.ServerUploads.{dropped_upload}
use Rattle.ftp_server_model.proofs.rows.dropped_upload.Goals as goal

pub returns : goal.returns
returns c = dropped_upload
