use Rattle.ftp_driver.proofs.Words.{IsOpen, Channel, LeadsBy, handing}
use Rattle.ftp_driver.proofs.hand.hand.Given as goal

abbrev pub invariant-loop-rest : goal.invariant-loop-rest
invariant-loop-rest g l =
    let stand = handing g.K.EndCalls.machine g.R.Read.remaining g.W.Write.contents in
    (channel : Channel) → IsOpen channel → LeadsBy l.turns.left (stand (g.K.EndCalls.here l.fn.end) l.fn.control channel l.octets) (stand (g.K.EndCalls.here l.end) l.control channel l.rest)

abbrev pub decreases-loop-rest : goal.decreases-loop-rest
decreases-loop-rest g l = l.turns.left
