use Rattle.ftp_server_model.proofs.ServerUploads.{passive_upload}
use Rattle.ftp_server_model.proofs.rows.passive_upload.Goals as goal

pub returns : goal.returns
returns c = passive_upload
