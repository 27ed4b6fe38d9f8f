use Rattle.ftp_client_model.proofs.ClientRows.{endpoints}
use Rattle.ftp_client_model.proofs.rows.endpoints.Goals as goal

pub returns : goal.returns
returns c = endpoints
