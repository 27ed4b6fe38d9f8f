use Rattle.ftp_server_model.proofs.ServerRows.{active_download}
use Rattle.ftp_server_model.proofs.rows.active_download.Goals as goal

pub returns : goal.returns
returns c = active_download
