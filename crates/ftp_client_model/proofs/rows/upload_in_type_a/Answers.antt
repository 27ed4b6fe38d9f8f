use Rattle.ftp_client_model.proofs.ClientRows.{upload_in_type_a}
use Rattle.ftp_client_model.proofs.rows.upload_in_type_a.Goals as goal

pub returns : goal.returns
returns c = upload_in_type_a
