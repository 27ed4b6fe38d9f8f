use Rattle.ftp_client_model.proofs.ClientRows.{unsendable}
use Rattle.ftp_client_model.proofs.rows.unsendable.Goals as goal

pub returns : goal.returns
returns c = unsendable
