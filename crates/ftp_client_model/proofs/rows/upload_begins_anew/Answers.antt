use Rattle.ftp_client_model.proofs.ClientRows.{upload_begins_anew}
use Rattle.ftp_client_model.proofs.rows.upload_begins_anew.Goals as goal

pub returns : goal.returns
returns c = upload_begins_anew
