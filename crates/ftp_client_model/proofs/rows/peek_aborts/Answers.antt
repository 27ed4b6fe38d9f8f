use Rattle.ftp_client_model.proofs.ClientRows.{peek_aborts}
use Rattle.ftp_client_model.proofs.rows.peek_aborts.Goals as goal

pub returns : goal.returns
returns c = peek_aborts
