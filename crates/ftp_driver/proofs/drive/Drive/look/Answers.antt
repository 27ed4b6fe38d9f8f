use Rattle.ftp_driver.proofs.Words.{asks, is_over, rules}
use Rattle.ftp_driver.proofs.drive.Drive.look.Goals as goal

pub returns-then-awaits-clause-leads : goal.returns-then-awaits-clause-leads
returns-then-awaits-clause-leads g c = asks g.K.EndCalls.machine (is_over c.spoken.result) _ _ (search rules) c.spoken.ensures
