use Rattle.std.proofs.Common.{◌≡◌, ◌-◌, ◌++◌, length, replicate, take}
use Rattle.ftp_endpoint.proofs.host.fill.Given as goal

abbrev pub invariant-loop-missing : goal.invariant-loop-missing
invariant-loop-missing l = l.all.items ≡ l.fn.front.items ++ replicate l._missing 0

abbrev pub invariant-loop-group : goal.invariant-loop-group
invariant-loop-group l =
    l.all.items ≡ (l.fn.front.items ++ replicate (8 - length l.fn.front.items - length l.back) 0) ++ take l.group-index l.back
