use Rattle.ftp_client_model.proofs.ClientRows.{two_codes}
use Rattle.ftp_client_model.proofs.rows.two_codes.Goals as goal

pub returns : goal.returns
returns c = two_codes
