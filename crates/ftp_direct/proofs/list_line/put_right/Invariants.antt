use Rattle.std.proofs.Common.{◌≡◌, ◌++◌, replicate}
use Rattle.ftp_direct.proofs.list_line.put_right.Given as goal

abbrev pub invariant-loop : goal.invariant-loop
invariant-loop g l = l.out.items ≡ l.fn.out.items ++ replicate l.counter 32
