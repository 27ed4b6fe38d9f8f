use Rattle.ftp_ports.proofs.Leading.{fails_at}
use Rattle.ftp_driver.proofs.drive.Drive.heed.Goals as goal

pub returns-then-has_unheard-clause-gets : goal.returns-then-has_unheard-clause-gets
returns-then-has_unheard-clause-gets g c = fails_at _ _ (λ spent. spent)
