use Rattle.ftp_client_model.proofs.ClientRows.{broken_upload}
use Rattle.ftp_client_model.proofs.rows.broken_upload.Goals as goal

pub returns : goal.returns
returns c = broken_upload
