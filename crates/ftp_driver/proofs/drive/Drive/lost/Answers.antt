use Rattle.ftp_ports.proofs.Leading.{fails_at}
use Rattle.ftp_driver.proofs.drive.Drive.lost.Goals as goal

pub returns-then-serves-clause-goes : goal.returns-then-serves-clause-goes
returns-then-serves-clause-goes g c = fails_at _ _ (λ spent. spent)
