use Rattle.std.proofs.Common.{◌≡◌, ◌≤◌, length, take}
use Rattle.ftp_command.specs.Argument.{trimmed}
use Rattle.ftp_command.proofs.argument.trimmed_len.Given as goal

abbrev pub invariant-loop-end : goal.invariant-loop-end
invariant-loop-end l = (l.end ≤ length l.text) × (trimmed (take l.end l.text) ≡ trimmed l.text)

abbrev pub decreases-loop-end : goal.decreases-loop-end
decreases-loop-end l = l.end
