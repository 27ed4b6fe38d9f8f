use Rattle.ftp_server_model.proofs.ServerRows.{refused_opening}
use Rattle.ftp_server_model.proofs.rows.refused_opening.Goals as goal

pub returns : goal.returns
returns c = refused_opening
