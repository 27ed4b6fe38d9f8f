use Rattle.ftp_driver.proofs.Words.{listens, listens_nowhere}
use Rattle.ftp_driver.proofs.drive.Drive.listen.Goals as goal

pub returns-in-Some-clause-progresses : goal.returns-in-Some-clause-progresses
returns-in-Some-clause-progresses g c = listens g.K.EndCalls.machine _ _ _ c.listen.result c.in-Some.port c.in-Some.is c.listen.ensures c.listening.ensures c.requires.wants c.requires.flushed

pub returns-in-None-clause-progresses : goal.returns-in-None-clause-progresses
returns-in-None-clause-progresses g c = listens_nowhere g.K.EndCalls.machine _ _ _ c.listen.result c.in-None.is c.listen.ensures c.listen_refused.ensures c.requires.wants c.requires.flushed
