use Rattle.std.proofs.Common.{◌≡◌, drop}
use Rattle.ftp_operation.specs.Account.{are_distinct}
use Rattle.ftp_operation.proofs.account.are_distinct.Given as goal

abbrev pub invariant-loop-at : goal.invariant-loop-at
invariant-loop-at g l = are_distinct l.list ≡ are_distinct (drop l.at l.list)
