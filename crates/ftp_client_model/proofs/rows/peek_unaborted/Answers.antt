use Rattle.ftp_client_model.proofs.ClientRows.{peek_unaborted}
use Rattle.ftp_client_model.proofs.rows.peek_unaborted.Goals as goal

pub returns : goal.returns
returns c = peek_unaborted
