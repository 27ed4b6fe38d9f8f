use Rattle.ftp_driver.proofs.Words.{fails_here, progresses_lead, progresses_then}
use Rattle.ftp_driver.proofs.drive.Drive.carry.Goals as goal

pub returns-in-Lost-clause-gets : goal.returns-in-Lost-clause-gets
returns-in-Lost-clause-gets g c = fails_here _ _ _ (progresses_lead _ _ c.wait.ensures.progresses) (λ spent. spent)

pub returns-clause-gets : goal.returns-clause-gets
returns-clause-gets g c = progresses_then _ _ _ c.wait.ensures.progresses c.send_more.ensures.leads
