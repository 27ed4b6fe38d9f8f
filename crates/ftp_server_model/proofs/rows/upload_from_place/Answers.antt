use Rattle.ftp_server_model.proofs.ServerUploads.{upload_from_place}
use Rattle.ftp_server_model.proofs.rows.upload_from_place.Goals as goal

pub returns : goal.returns
returns c = upload_from_place
