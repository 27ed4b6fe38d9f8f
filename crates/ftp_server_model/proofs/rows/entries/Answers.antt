use Rattle.ftp_server_model.proofs.ServerRows.{entries}
use Rattle.ftp_server_model.proofs.rows.entries.Goals as goal

pub returns : goal.returns
returns c = entries
