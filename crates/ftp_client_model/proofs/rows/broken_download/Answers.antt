use Rattle.ftp_client_model.proofs.ClientRows.{broken_download}
use Rattle.ftp_client_model.proofs.rows.broken_download.Goals as goal

pub returns : goal.returns
returns c = broken_download
