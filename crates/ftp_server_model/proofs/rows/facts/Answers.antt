use Rattle.ftp_server_model.proofs.ServerRows.{facts}
use Rattle.ftp_server_model.proofs.rows.facts.Goals as goal

pub returns : goal.returns
returns c = facts
