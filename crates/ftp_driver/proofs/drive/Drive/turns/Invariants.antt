use Rattle.ftp_driver.proofs.Words.{IsKept, TurnsBy, standing}
use Rattle.ftp_driver.proofs.drive.Drive.turns.Given as goal

abbrev pub invariant-loop-self : goal.invariant-loop-self
invariant-loop-self g l =
    let at = standing g.K.EndCalls.machine g.K.EndCalls.here g.R.Read.remaining g.W.Write.contents g.P.Ports.history g.S.Read.remaining g.S.Write.contents in
    TurnsBy g.K.EndCalls.machine l.turns.left (at l.fn.self) (at l.self) × IsKept l.fn.self l.self

abbrev pub decreases-loop-self : goal.decreases-loop-self
decreases-loop-self g l = l.turns.left
