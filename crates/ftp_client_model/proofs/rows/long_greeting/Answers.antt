use Rattle.ftp_client_model.proofs.ClientRows.{long_greeting}
use Rattle.ftp_client_model.proofs.rows.long_greeting.Goals as goal

pub returns : goal.returns
returns c = long_greeting
