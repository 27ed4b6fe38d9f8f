use Rattle.ftp_driver.proofs.Words.{idles_sent, sends, sent_fate}
use Rattle.ftp_driver.proofs.drive.Drive.write.Goals as goal

pub returns-clause-leads : goal.returns-clause-leads
returns-clause-leads g c =
    idles_sent g.K.EndCalls.machine _ _ (sent_fate c.write.result _ c.write.ensures.fate) (c.write.ensures.written (g.P.Ports.history c.args.self.now.ports.now)) _ _ _ _

pub returns-clause-progresses : goal.returns-clause-progresses
returns-clause-progresses g c some =
    sends g.K.EndCalls.machine _ _ _ (sent_fate c.write.result _ c.write.ensures.fate) (c.write.ensures.some some (g.P.Ports.history c.args.self.now.ports.now)) _ _ _
