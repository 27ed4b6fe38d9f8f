use Rattle.std.proofs.Common.{◌≤◌, ◌-◌}
use Rattle.ftp_disk_host.specs.Copied.{Copies}
use Rattle.ftp_disk_host.proofs.front.copy_front.Given as goal

-- what is not left is copied
abbrev pub invariant-loop-left : goal.invariant-loop-left
invariant-loop-left g l =
    (l.left ≤ l.count)
    × Copies (l.count - l.left) (g.F.Read.remaining l.fn.from) (g.F.Read.remaining l.from) (g.W.Write.contents l.fn.to) (g.W.Write.contents l.to)

abbrev pub decreases-loop-left : goal.decreases-loop-left
decreases-loop-left g l = l.left
