use Rattle.ftp_server_model.proofs.ServerRows.{entry}
use Rattle.ftp_server_model.proofs.rows.entry.Goals as goal

pub returns : goal.returns
returns c = entry
