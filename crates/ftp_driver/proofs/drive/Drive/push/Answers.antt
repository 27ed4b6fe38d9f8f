use Rattle.ftp_driver.proofs.Words.{leads_then, progresses_lead, progresses_then}
use Rattle.ftp_driver.proofs.drive.Drive.push.Goals as goal

pub returns-in-Err-Broken-clause-leads : goal.returns-in-Err-Broken-clause-leads
returns-in-Err-Broken-clause-leads g c = leads_then _ _ _ c.write.ensures.leads (progresses_lead _ _ c.lose.ensures.progresses)

pub returns-in-Err-Broken-clause-progresses : goal.returns-in-Err-Broken-clause-progresses
returns-in-Err-Broken-clause-progresses g c some = progresses_then _ _ _ (c.write.ensures.progresses some) (progresses_lead _ _ c.lose.ensures.progresses)
