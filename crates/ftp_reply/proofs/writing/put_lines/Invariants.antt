use Rattle.ftp_reply.proofs.WritingLemmas.{Wrote}
use Rattle.ftp_reply.proofs.writing.put_lines.Given as goal

-- the lines before the i-th are put
abbrev pub invariant-loop-i : goal.invariant-loop-i
invariant-loop-i g l = Wrote l.fn.out.items l.out.items l.code l.lines l.i
