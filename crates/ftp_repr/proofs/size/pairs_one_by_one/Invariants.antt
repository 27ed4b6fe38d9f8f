use Rattle.std.proofs.Common.{◌≡◌, ◌+◌, ◌≤◌, length, take}
use Rattle.ftp_repr.specs.Ascii.{asc}
use Rattle.ftp_repr.proofs.size.pairs_one_by_one.Given as goal

abbrev pub invariant-loop-at : goal.invariant-loop-at
invariant-loop-at l = (length (asc (take l.at l.piece)) ≡ l.at + l.count) × (l.count ≤ l.at)
