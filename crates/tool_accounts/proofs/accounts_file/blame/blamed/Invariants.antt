use Rattle.std.proofs.Common.{length}
use Rattle.tool_accounts.proofs.accounts_file.LinesLemmas.{IsLeft}
use Rattle.tool_accounts.proofs.accounts_file.blame.blamed.Given as goal

abbrev pub invariant-loop-number : goal.invariant-loop-number
invariant-loop-number g l = IsLeft l.fn.refused.list.items l.fn.numbers.items l.list.items l.numbers.items l.fault

abbrev pub decreases-loop-number : goal.decreases-loop-number
decreases-loop-number g l = length l.numbers.items
