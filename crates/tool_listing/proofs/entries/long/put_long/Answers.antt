use Rattle.tool_listing.specs.entries.Long.{long_text}
use Rattle.tool_listing.proofs.entries.LinesLemmas.{one_written}
use Rattle.tool_listing.proofs.entries.long.put_long.Goals as goal

pub loop-entry-preserved : goal.loop-entry-preserved
loop-entry-preserved c =
    one_written long_text c.args.entries.now c.loop-entry.entry-index c.entry-item.result c.entry-item.result c.args.out.now.items
    c.loop-entry.out.items c.put_entry.new.out.items c.loop-entry-test.true c.entry-item.is c.loop-entry.invariant c.in_ok-put_entry.ensures
