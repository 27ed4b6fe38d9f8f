use Rattle.ftp_driver.proofs.Words.{loses, refl}
use Rattle.ftp_driver.proofs.drive.Drive.lose.Goals as goal

pub returns-clause-progresses : goal.returns-clause-progresses
returns-clause-progresses g c = loses g.K.EndCalls.machine _ _ _ c.reset.ensures.0 c.data_fault.ensures c.requires c.reset.ensures.1 refl
