use Rattle.ftp_server_model.proofs.ServerUploads.{marker}
use Rattle.ftp_server_model.proofs.rows.marker.Goals as goal

pub returns : goal.returns
returns c = marker
