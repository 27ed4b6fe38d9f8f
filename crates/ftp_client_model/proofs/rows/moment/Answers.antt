use Rattle.ftp_client_model.proofs.ClientRows.{moment}
use Rattle.ftp_client_model.proofs.rows.moment.Goals as goal

pub returns : goal.returns
returns c = moment
