use Rattle.std.proofs.Common.{◌≤◌, ◌+◌, length}
use Rattle.tool_accounts.specs.accounts_file.Lines.{Stands, lines_of, numbered, speakers}
use Rattle.tool_accounts.proofs.accounts_file.reading.said_in.Given as goal

abbrev pub invariant-loop-line : goal.invariant-loop-line
invariant-loop-line g l =
    Stands (speakers l.text) (numbered l.number (lines_of l.rest)) (l.said.list.items, l.said.numbers.items)
    × (l.number + length l.rest ≤ length l.text + 1)

abbrev pub decreases-loop-line : goal.decreases-loop-line
decreases-loop-line g l = length l.rest
