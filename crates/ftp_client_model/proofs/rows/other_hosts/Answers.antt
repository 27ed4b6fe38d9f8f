use Rattle.ftp_client_model.proofs.ClientRows.{other_hosts}
use Rattle.ftp_client_model.proofs.rows.other_hosts.Goals as goal

pub returns : goal.returns
returns c = other_hosts
