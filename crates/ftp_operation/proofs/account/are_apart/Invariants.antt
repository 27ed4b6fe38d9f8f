use Rattle.std.proofs.Common.{◌≡◌, drop}
use Rattle.ftp_operation.specs.Account.{are_apart}
use Rattle.ftp_operation.proofs.account.are_apart.Given as goal

abbrev pub invariant-loop-at : goal.invariant-loop-at
invariant-loop-at g l = are_apart l.list ≡ are_apart (drop l.at l.list)
