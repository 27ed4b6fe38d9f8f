use Rattle.tool_codec.proofs.WireFollowing.{WireFollows}
use Rattle.tool_codec.proofs.receiving.write_file.Given as goal

abbrev pub invariant-loop-turn : goal.invariant-loop-turn
invariant-loop-turn g l =
    let remaining = g.R.Read.remaining in
    let contents = g.W.Write.contents in
    WireFollows l.fn.form (remaining l.fn.reader) (remaining l.reader) (contents l.fn.writer) (contents l.writer) l._turn l.receiving
