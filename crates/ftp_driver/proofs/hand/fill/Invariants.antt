use Rattle.std.proofs.Common.{length, take, ◌-◌, ◌≤◌}
use Rattle.ftp_ports.specs.Machine.{Progressing}
use Rattle.ftp_driver.proofs.Words.{IsOpen, Channel, held, with_given}
use Rattle.ftp_driver.proofs.hand.fill.Given as goal

abbrev pub invariant-loop-at : goal.invariant-loop-at
invariant-loop-at g l =
    let here = g.K.EndCalls.here in
    (l.at ≤ length l.room)
    × ((channel : Channel) → IsOpen channel → Progressing g.K.EndCalls.machine (held (here l.fn.end) channel) (held (here l.end) (with_given (take l.at l.room) l.rest channel)))

abbrev pub decreases-loop-at : goal.decreases-loop-at
decreases-loop-at g l = length l.room - l.at
