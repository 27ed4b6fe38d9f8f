use Rattle.std.proofs.Common.{◌≡◌, drop}
use Rattle.ftp_reply.specs.Lines.{lines_at}
use Rattle.ftp_reply.proofs.lines.Lines.get.Given as goal

-- the rest of the buffer has the rest of the lines
abbrev pub invariant-loop-i : goal.invariant-loop-i
invariant-loop-i g l = lines_at l.rest (drop l.i l.self-inside.lens.items) ≡ drop l.i (lines_at l.self-inside.buffer.items l.self-inside.lens.items)
