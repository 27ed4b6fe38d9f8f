use Rattle.std.proofs.Common.{[], ◌∙◌, ap}
use Rattle.ftp_driver.proofs.Words.{channel_at, leads_looked}
use Rattle.ftp_driver.proofs.drive.Drive.looks_at.Goals as goal

pub returns-clause-leads : goal.returns-clause-leads
returns-clause-leads g c =
    leads_looked g.K.EndCalls.machine _ _
    (ap (λ h. channel_at g.S.Read.remaining g.S.Write.contents h c.looks.new.self []) c.looks.ensures.asked ∙ c.looks.ensures.same (g.P.Ports.history c.args.self.now.ports.now))
