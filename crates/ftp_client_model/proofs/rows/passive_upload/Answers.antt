use Rattle.ftp_client_model.proofs.ClientRows.{passive_upload}
use Rattle.ftp_client_model.proofs.rows.passive_upload.Goals as goal

pub returns : goal.returns
returns c = passive_upload
