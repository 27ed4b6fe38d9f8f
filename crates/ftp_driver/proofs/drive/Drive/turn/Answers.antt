use Rattle.std.proofs.Common.{inl}
use Rattle.ftp_driver.proofs.Words.{then_progresses, then_turns}
use Rattle.ftp_driver.proofs.drive.Drive.turn.Goals as goal

pub returns-then-hears_now-clause-gets : goal.returns-then-hears_now-clause-gets
returns-then-hears_now-clause-gets g c = inl (then_progresses _ _ _ c.in_ok-flush.ensures.goes c.hear.ensures.progresses)

pub returns-clause-gets : goal.returns-clause-gets
returns-clause-gets g c = then_turns g.K.EndCalls.machine _ _ _ c.act.result c.in_ok-flush.ensures.goes c.act.ensures.gets
