use Rattle.ftp_server_model.proofs.ServerUploads.{faulty_upload}
use Rattle.ftp_server_model.proofs.rows.faulty_upload.Goals as goal

pub returns : goal.returns
returns c = faulty_upload
