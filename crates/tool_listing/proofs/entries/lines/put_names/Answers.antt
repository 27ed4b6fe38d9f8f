use Rattle.std.proofs.Common.{◌++◌, ◌∙◌, ap}
use Rattle.tool_listing.specs.entries.Lines.{name_text}
use Rattle.tool_listing.proofs.entries.LinesLemmas.{one_written}
use Rattle.tool_listing.proofs.entries.lines.put_names.Goals as goal

pub loop-name-preserved : goal.loop-name-preserved
loop-name-preserved c =
    let old = c.loop-name.out.items in
    one_written (name_text c.args.path.now) c.args.names.now c.loop-name.name-index c.name-item.result c.name-item.result c.args.out.now.items old
    c.put_name.new.out.items c.loop-name-test.true c.name-item.is c.loop-name.invariant
    (c.in_ok-put_name.ensures ∙ ap (λ text. old ++ name_text c.args.path.now text) c.as_slice.ensures)
