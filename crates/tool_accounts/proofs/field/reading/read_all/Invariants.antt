use Rattle.std.proofs.Common.{◌≤◌, length}
use Rattle.std.specs.Io.KnownBytes.{Consumes}
use Rattle.tool_accounts.proofs.field.reading.read_all.Given as goal

abbrev pub invariant-reads : goal.invariant-reads
invariant-reads g l =
    let remaining = g.R.Read.remaining in
    (l.i ≤ length l.input.items) × (length l.input.items ≤ 258) × Consumes (remaining l.fn.reader) (remaining l.reader) l.input.items
