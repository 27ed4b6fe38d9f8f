use Rattle.ftp_driver.proofs.Words.{[], flushed, flushed_so, channel_at}
use Rattle.ftp_driver.proofs.drive.Drive.flush.Goals as goal

pub returns-clause-goes : goal.returns-clause-goes
returns-clause-goes g c = flushed _ _ c.flush.result (c.flush.ensures.flushes _)

pub returns-clause-flushes : goal.returns-clause-flushes
returns-clause-flushes g c = c.flush.ensures.flushes _

pub returns-clause-why : goal.returns-clause-why
returns-clause-why g c = c.flush.ensures.why _

pub returns-clause-owes : goal.returns-clause-owes
returns-clause-owes g c = flushed_so g.K.EndCalls.machine _ _ c.flush.result (c.flush.ensures.flushes (channel_at g.S.Read.remaining g.S.Write.contents (g.P.Ports.history c.args.self.now.ports.now) c.args.self.now.data.now []))
