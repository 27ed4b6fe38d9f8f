use Rattle.ftp_driver.proofs.Words.{progresses_lead}
use Rattle.ftp_driver.proofs.drive.Drive.halted.Goals as goal

pub returns-in-Broken-clause-goes : goal.returns-in-Broken-clause-goes
returns-in-Broken-clause-goes g c = progresses_lead _ _ c.lose.ensures.progresses
