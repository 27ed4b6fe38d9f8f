use Rattle.ftp_server_model.proofs.ServerRows.{onto_done}
use Rattle.ftp_server_model.proofs.rows.onto_done.Goals as goal

pub returns : goal.returns
returns c = onto_done
