use Rattle.std.proofs.Common.{◌∙◌, sym}
use Rattle.tool_listing.specs.entries.Lines.{is_strange_entry}
use Rattle.tool_listing.proofs.entries.LinesLemmas.{none_counted, one_counted}
use Rattle.tool_listing.proofs.entries.lines.strange_entries.Goals.{then-is_strange_entry, else-is_strange_entry}
use Rattle.tool_listing.proofs.entries.lines.strange_entries.Goals as goal

pub loop-entry-preserved : goal.loop-entry-preserved
loop-entry-preserved c =
    let p = is_strange_entry in
    elim c.if-is_strange_entry.branch [
      | then-is_strange_entry w ↦ one_counted p c.args.entries.now c.loop-entry.entry-index c.entry-item.result c.loop-entry.count
          c.if-is_strange_entry.count c.loop-entry-test.true c.entry-item.is (sym c.is_strange_entry.ensures ∙ w.if-is_strange_entry.true)
          c.loop-entry.invariant w.count-is
      | else-is_strange_entry w ↦ none_counted p c.args.entries.now c.loop-entry.entry-index c.entry-item.result c.loop-entry.count
          c.if-is_strange_entry.count c.loop-entry-test.true c.entry-item.is (sym c.is_strange_entry.ensures ∙ w.if-is_strange_entry.false)
          c.loop-entry.invariant w.count-is
    ]
