use Rattle.ftp_client_model.proofs.ClientRows.{active_download}
use Rattle.ftp_client_model.proofs.rows.active_download.Goals as goal

pub returns : goal.returns
returns c = active_download
