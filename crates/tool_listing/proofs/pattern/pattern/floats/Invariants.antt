use Rattle.std.proofs.Common.{◌≡◌, ◌+◌, length}
use Rattle.tool_listing.specs.pattern.Pattern.{matches, some_rest}
use Rattle.tool_listing.proofs.pattern.pattern.floats.Given as goal

-- what is left matches where all did
abbrev pub invariant-loop-count : goal.invariant-loop-count
invariant-loop-count l = some_rest (matches l.wanted) l.left ≡ some_rest (matches l.pattern) l.text

abbrev pub decreases-loop-count : goal.decreases-loop-count
decreases-loop-count l = length l.wanted + length l.left
