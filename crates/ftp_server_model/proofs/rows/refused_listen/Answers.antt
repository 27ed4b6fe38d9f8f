use Rattle.ftp_server_model.proofs.ServerRows.{refused_listen}
use Rattle.ftp_server_model.proofs.rows.refused_listen.Goals as goal

pub returns : goal.returns
returns c = refused_listen
