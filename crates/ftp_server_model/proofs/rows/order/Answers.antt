use Rattle.ftp_server_model.proofs.ServerRows.{order}
use Rattle.ftp_server_model.proofs.rows.order.Goals as goal

pub returns : goal.returns
returns c = order
