use Rattle.std.proofs.Common.{◌≡◌, ◌==◌, ◌++◌, length, map}
use Rattle.std.specs.List.{slice_split}
use Rattle.tool_script.proofs.cut.pieces_at.Given as goal

-- the pieces so far, and those of the rest, are those of the text
abbrev pub invariant-loop-piece : goal.invariant-loop-piece
invariant-loop-piece g l = map (λ piece. piece.now) l.pieces.items ++ slice_split (λ other. other == l.octet) l.rest ≡ slice_split (λ other. other == l.octet) l.text

abbrev pub decreases-loop-piece : goal.decreases-loop-piece
decreases-loop-piece g l = length l.rest
