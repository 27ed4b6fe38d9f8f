use Rattle.ftp_server_model.proofs.ServerRows.{by_family}
use Rattle.ftp_server_model.proofs.rows.by_family.Goals as goal

pub returns : goal.returns
returns c = by_family
