use Rattle.ftp_client_model.proofs.ClientRows.{peek_ends}
use Rattle.ftp_client_model.proofs.rows.peek_ends.Goals as goal

pub returns : goal.returns
returns c = peek_ends
