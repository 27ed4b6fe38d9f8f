use Rattle.std.proofs.Common.{ap}
use Rattle.ftp_ports.specs.Machine.{leaves as goes_without}
use Rattle.ftp_driver.proofs.Words.{Closed, Other, leaves, leaves_flushed, may_leave, refl, progresses_by, progresses_lead, then_progresses}
use Rattle.ftp_driver.proofs.drive.Drive.close.Goals as goal

pub returns-clause-progresses : goal.returns-clause-progresses
returns-clause-progresses g c =
    then_progresses _ _ _ (progresses_lead _ _ (leaves g.K.EndCalls.machine c.leave.ensures.left.0 _ _ c.leave.ensures.left.1 (may_leave _ _ _ (ap goes_without c.requires.wants) c.requires.sound) c.leave.ensures.left.2 (leaves_flushed g.K.EndCalls.machine _ _ c.requires.flushed) refl))
    (progresses_by (Other Closed) _ _ tt ((c.data_closed.ensures, (refl, (c.leave.ensures.left.1).stands), g.met.K.EndCalls.close_due _ c.requires.wants), refl))
