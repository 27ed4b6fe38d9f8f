use Rattle.ftp_driver.proofs.Words.{leads_then}
use Rattle.ftp_driver.proofs.drive.Drive.is_ready.Goals as goal

pub returns-then-looks-clause-leads : goal.returns-then-looks-clause-leads
returns-then-looks-clause-leads g c = leads_then _ _ _ c.looks-in-Receive.ensures.leads c.looks_at-then-looks.ensures.leads
