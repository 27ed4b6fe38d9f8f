use Rattle.ftp_driver.proofs.Words.{then_gets, then_progresses}
use Rattle.ftp_driver.proofs.drive.Drive.broke.Goals as goal

pub returns-then-goes_first-clause-gets : goal.returns-then-goes_first-clause-gets
returns-then-goes_first-clause-gets g c = then_gets _ _ _ c.heed.result c.look-spoken.ensures.leads c.heed.ensures.gets

pub returns-clause-gets : goal.returns-clause-gets
returns-clause-gets g c = then_progresses _ _ _ c.look-spoken.ensures.leads c.lose.ensures.progresses
