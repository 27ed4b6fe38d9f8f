use Rattle.ftp_client_model.proofs.ClientRows.{upload_gives_up}
use Rattle.ftp_client_model.proofs.rows.upload_gives_up.Goals as goal

pub returns : goal.returns
returns c = upload_gives_up
