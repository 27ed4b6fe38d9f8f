use Rattle.ftp_driver.proofs.Words.{leaves, leaves_flushed, refl}
use Rattle.ftp_driver.proofs.drive.Drive.leave.Goals as goal

pub returns-clause-progresses : goal.returns-clause-progresses
returns-clause-progresses g c = leaves g.K.EndCalls.machine c.leave.ensures.left.0 _ _ c.leave.ensures.left.1 c.requires.may c.leave.ensures.left.2
    (leaves_flushed g.K.EndCalls.machine _ _ c.requires.flushed) refl
