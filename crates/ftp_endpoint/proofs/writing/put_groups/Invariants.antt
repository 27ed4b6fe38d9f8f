use Rattle.std.proofs.Common.{◌≡◌, ◌+◌, ◌*◌, ◌≤◌, ◌++◌, length, map, take}
use Rattle.std.specs.List.{join_with_byte}
use Rattle.ftp_endpoint.specs.Written.{hex}
use Rattle.ftp_endpoint.proofs.writing.put_groups.Given as goal

abbrev pub invariant-loop-i : goal.invariant-loop-i
invariant-loop-i l =
    (l.line.items ≡ l.fn.line.items ++ join_with_byte 58 (map hex (take l.i l.groups)))
    × (length l.line.items ≤ length l.fn.line.items + 5 * l.i)
