use Rattle.std.proofs.Common.{arith}
use Rattle.tool_accounts.proofs.field.Ending.{counts_more, reads_more}
use Rattle.tool_accounts.proofs.field.reading.read_all.Goals as goal

pub reads-preserved : goal.reads-preserved
reads-preserved g c =
    let remaining = g.R.Read.remaining in
    let before = remaining c.args.reader.now in
    let mid = remaining c.reads.reader in
    let after = remaining c.read_more.new.reader in
    let old = c.reads.input.items in
    let new = c.read_more.new.input.items in
    let count = c.in_ok-count.count in
    let more = counts_more mid after old new count c.in_ok-count.ensures.adds in (
      grind (arith, more, c.reads.invariant.0, c.if-count-eq0.false),
      c.read_more.ensures.fits,
      reads_more before mid after old new count c.reads.invariant.2 c.in_ok-count.ensures.adds,
    )
