use Rattle.ftp_client_model.proofs.ClientRows.{passive_port}
use Rattle.ftp_client_model.proofs.rows.passive_port.Goals as goal

pub returns : goal.returns
returns c = passive_port
