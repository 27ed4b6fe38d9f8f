use Rattle.std.specs.Io.KnownBytes.{Consumes}
use Rattle.tool_script.proofs.reading.text_of.Given as goal

abbrev pub invariant-loop : goal.invariant-loop
invariant-loop g l =
    let remaining = g.R.Read.remaining in
    Consumes (remaining l.fn.reader) (remaining l.reader) l.text.items
