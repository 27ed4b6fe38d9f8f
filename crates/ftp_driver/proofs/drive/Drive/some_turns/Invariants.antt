use Rattle.std.proofs.Common.{◌≤◌, ◌-◌}
use Rattle.ftp_driver.proofs.Words.{IsKept, MadeBy, standing}
use Rattle.ftp_driver.proofs.drive.Drive.some_turns.Given as goal

abbrev pub invariant-loop-made : goal.invariant-loop-made
invariant-loop-made g l =
    let at = standing g.K.EndCalls.machine g.K.EndCalls.here g.R.Read.remaining g.W.Write.contents g.P.Ports.history g.S.Read.remaining g.S.Write.contents in
    MadeBy g.K.EndCalls.machine l.made (at l.fn.self) (at l.self) × IsKept l.fn.self l.self × (l.made ≤ l.most)

abbrev pub decreases-loop-made : goal.decreases-loop-made
decreases-loop-made g l = l.most - l.made
