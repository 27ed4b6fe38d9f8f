use Rattle.ftp_server_model.proofs.ServerRows.{cut_download}
use Rattle.ftp_server_model.proofs.rows.cut_download.Goals as goal

pub returns : goal.returns
returns c = cut_download
