use Rattle.tool_codec.proofs.Framing.{Follows}
use Rattle.tool_codec.proofs.frames.write_all.Given as goal

abbrev pub invariant-loop-turn : goal.invariant-loop-turn
invariant-loop-turn g l =
    let remaining = g.R.Read.remaining in
    let contents = g.W.Write.contents in
    Follows l.fn.form l.fn.marks (remaining l.fn.reader) (remaining l.reader) (contents l.fn.writer) (contents l.writer) l._turn l.sending
