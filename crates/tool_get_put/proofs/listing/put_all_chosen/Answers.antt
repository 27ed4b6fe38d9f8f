use Rattle.std.proofs.Common.{◌++◌, ◌∙◌, ap}
use Rattle.tool_get_put.specs.Choosing.{chosen_line}
use Rattle.tool_get_put.proofs.ChoosingLemmas.{one_written}
use Rattle.tool_get_put.proofs.listing.put_all_chosen.Goals as goal

pub loop-line-preserved : goal.loop-line-preserved
loop-line-preserved c =
    let old = c.loop-line.chosen.items in
    let text_of = chosen_line c.args.verb c.args.pattern.now in
    one_written text_of c.args.lines.now c.loop-line.line-index c.line-item.result c.line-item.result c.args.chosen.now.items old
    c.put_chosen.new.chosen.items c.loop-line-test.true c.line-item.is c.loop-line.invariant
    (c.in_ok-put_chosen.ensures ∙ ap (λ text. old ++ text_of text) c.as_slice.ensures)
