use Rattle.ftp_driver.proofs.Words.{fails_then, gets_goes, goes_err, goes_then, leads_then, progresses_lead}
use Rattle.ftp_driver.proofs.drive.Drive.ended.Goals as goal

pub returns-then-goes_first-clause-goes : goal.returns-then-goes_first-clause-goes
returns-then-goes_first-clause-goes g c = goes_then _ _ _ c.heed.result c.look-spoken.ensures.leads (gets_goes _ _ c.heed.result c.heed.ensures.gets)

pub returns-in_err-flush-clause-goes : goal.returns-in_err-flush-clause-goes
returns-in_err-flush-clause-goes g c =
    goes_err c.in_err-flush.field-0.0 _ _ c.from_residual.result c.from_residual.ensures.1
    (fails_then _ _ _ _ (leads_then _ _ _ c.look-spoken.ensures.leads c.tell_end.ensures.leads) c.in_err-flush.ensures.goes)

pub returns-clause-goes : goal.returns-clause-goes
returns-clause-goes g c =
    leads_then _ _ _ (leads_then _ _ _ (leads_then _ _ _ c.look-spoken.ensures.leads c.tell_end.ensures.leads) c.in_ok-flush.ensures.goes)
    (progresses_lead _ _ c.leave.ensures.progresses)
