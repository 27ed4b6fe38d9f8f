use Rattle.ftp_driver.proofs.Words.{leads_then}
use Rattle.ftp_driver.proofs.drive.Drive.send_more.Goals as goal

pub returns-clause-leads : goal.returns-clause-leads
returns-clause-leads g c = leads_then _ _ _ c.fill.ensures.leads c.push.ensures.leads
