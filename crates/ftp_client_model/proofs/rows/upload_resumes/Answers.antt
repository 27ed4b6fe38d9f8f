use Rattle.ftp_client_model.proofs.ClientRows.{upload_resumes}
use Rattle.ftp_client_model.proofs.rows.upload_resumes.Goals as goal

pub returns : goal.returns
returns c = upload_resumes
