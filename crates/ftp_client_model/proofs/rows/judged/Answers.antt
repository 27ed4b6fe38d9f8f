use Rattle.ftp_client_model.proofs.ClientRows.{judged}
use Rattle.ftp_client_model.proofs.rows.judged.Goals as goal

pub returns : goal.returns
returns c = judged
