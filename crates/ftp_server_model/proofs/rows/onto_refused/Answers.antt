use Rattle.ftp_server_model.proofs.ServerRows.{onto_refused}
use Rattle.ftp_server_model.proofs.rows.onto_refused.Goals as goal

pub returns : goal.returns
returns c = onto_refused
