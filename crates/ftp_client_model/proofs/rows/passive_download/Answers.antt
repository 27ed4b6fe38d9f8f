use Rattle.ftp_client_model.proofs.ClientRows.{passive_download}
use Rattle.ftp_client_model.proofs.rows.passive_download.Goals as goal

pub returns : goal.returns
returns c = passive_download
