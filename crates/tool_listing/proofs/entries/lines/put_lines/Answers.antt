use Rattle.std.proofs.Common.{◌++◌, ◌∙◌, ap}
use Rattle.tool_listing.specs.entries.Lines.{line}
use Rattle.tool_listing.proofs.entries.LinesLemmas.{one_written}
use Rattle.tool_listing.proofs.entries.lines.put_lines.Goals as goal

pub loop-text-preserved : goal.loop-text-preserved
loop-text-preserved c =
    let old = c.loop-text.out.items in
    one_written line c.args.lines.now c.loop-text.text-index c.text-item.result c.text-item.result c.args.out.now.items old
    c.put_line.new.out.items c.loop-text-test.true c.text-item.is c.loop-text.invariant
    (c.in_ok-put_line.ensures ∙ ap (λ text. old ++ line text) c.as_slice.ensures)
