use Rattle.ftp_client_model.proofs.ClientRows.{peek_fails}
use Rattle.ftp_client_model.proofs.rows.peek_fails.Goals as goal

pub returns : goal.returns
returns c = peek_fails
