use Rattle.std.proofs.Common.{◌≡◌, ◌++◌, List, ℕ, length}
use Rattle.tool_pair.specs.Telling.{Ends}
use Rattle.tool_pair.proofs.transcript.put_lines.Given as goal

-- what stands before the rest has ended its lines
abbrev pub invariant-loop-line : goal.invariant-loop-line
invariant-loop-line g l =
    (front : List ℕ) × (l.octets ≡ front ++ l.rest) × Ends l.who front l.fn.part.items l.fn.lines.items l.part.items l.lines.items

abbrev pub decreases-loop-line : goal.decreases-loop-line
decreases-loop-line g l = length l.rest
