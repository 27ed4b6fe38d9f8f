use Rattle.tool_listing.specs.entries.Lines.{shown_entry_text}
use Rattle.tool_listing.proofs.entries.LinesLemmas.{one_written}
use Rattle.tool_listing.proofs.entries.lines.put_entries.Goals as goal

pub loop-entry-preserved : goal.loop-entry-preserved
loop-entry-preserved c =
    one_written shown_entry_text c.args.entries.now c.loop-entry.entry-index c.entry-item.result c.entry-item.result c.args.out.now.items
    c.loop-entry.out.items c.put_entry.new.out.items c.loop-entry-test.true c.entry-item.is c.loop-entry.invariant c.in_ok-put_entry.ensures
