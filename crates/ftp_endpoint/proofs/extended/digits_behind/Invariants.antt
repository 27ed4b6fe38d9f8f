use Rattle.std.proofs.Common.{◌≤◌, length, drop}
use Rattle.std.specs.Str.Parse.{AllDigits}
use Rattle.ftp_endpoint.proofs.extended.digits_behind.Given as goal

abbrev pub invariant-loop-at : goal.invariant-loop-at
invariant-loop-at l = (l.at ≤ length l.text) × AllDigits 10 (drop l.at l.text)

abbrev pub decreases-loop-at : goal.decreases-loop-at
decreases-loop-at l = l.at
