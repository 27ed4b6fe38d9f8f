use Rattle.tool_codec.proofs.FactTelling.{FactsFollow}
use Rattle.tool_codec.proofs.fact_lines.tell_all.Given as goal

abbrev pub invariant-loop : goal.invariant-loop
invariant-loop g l =
    let remaining = g.R.Read.remaining in
    let contents = g.W.Write.contents in
    FactsFollow (remaining l.fn.reader) (remaining l.reader) (contents l.fn.writer) (contents l.writer) l.kept
