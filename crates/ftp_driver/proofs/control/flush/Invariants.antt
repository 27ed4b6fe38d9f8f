use Rattle.std.proofs.Common.{◌≡◌}
use Rattle.ftp_ports.specs.Unheard.{unheard_of}
use Rattle.ftp_driver.proofs.Words.{Channel, LeadsBy, held, stand_of}
use Rattle.ftp_driver.proofs.control.flush.Given as goal

abbrev pub invariant-loop-room : goal.invariant-loop-room
invariant-loop-room g l =
    let stand = stand_of g.K.EndCalls.machine g.R.Read.remaining g.W.Write.contents in
    ((channel : Channel) → LeadsBy l.turns.left (stand (held (g.K.EndCalls.here l.fn.end) channel) l.fn.control) (stand (held (g.K.EndCalls.here l.end) channel) l.control))
    × (unheard_of l.control ≡ unheard_of l.fn.control)

abbrev pub decreases-loop-room : goal.decreases-loop-room
decreases-loop-room g l = l.turns.left
