use Rattle.ftp_client_model.proofs.ClientRows.{active_report}
use Rattle.ftp_client_model.proofs.rows.active_report.Goals as goal

pub returns : goal.returns
returns c = active_report
