use Rattle.std.proofs.Common.{inl}
use Rattle.ftp_driver.proofs.Words.{waits}
use Rattle.ftp_driver.proofs.drive.Drive.wait.Goals as goal

pub returns-clause-progresses : goal.returns-clause-progresses
returns-clause-progresses g c = waits g.K.EndCalls.machine _ _ _ _ c.requires c.wait.ensures _ _ _
