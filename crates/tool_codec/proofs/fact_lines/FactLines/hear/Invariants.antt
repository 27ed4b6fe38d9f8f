use Rattle.std.proofs.Common.{ℕ, ◌-◌, ◌≤◌, List, ◌++◌, Option, length, take}
use Rattle.tool_codec.specs.FactHearing.{StandsAfter}
use Rattle.tool_codec.proofs.fact_lines.FactLines.hear.Given as goal

abbrev pub invariant-loop-at : goal.invariant-loop-at
invariant-loop-at g l = record {
  within : l.at ≤ length l.piece;
  stands : (octets : List ℕ) (before : Option (List ℕ)) → StandsAfter octets before (g.W.Write.contents l.fn.writer) l.fn.self
      → StandsAfter (octets ++ take l.at l.piece) before (g.W.Write.contents l.writer) l.self;
}

abbrev pub decreases-loop-at : goal.decreases-loop-at
decreases-loop-at g l = length l.initial.piece - l.at
