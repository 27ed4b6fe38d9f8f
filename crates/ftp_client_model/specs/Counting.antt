-- How far the count of refused growths moves in one call. It wraps, so a caller who compares it before and after some calls has to know by how
-- much each call moves it at most.
use Rattle.std.specs.Prelude.{◌≡◌, ◌⊎◌, ◌+◌, ◌%◌, ◌^◌, ℕ}

-- the count stays, or moves on by one; 0 comes after the last of 64 bits
abbrev pub MovesByOneAtMost : (before after : ℕ) → Type 0
MovesByOneAtMost before after = (after ≡ before) ⊎ (after ≡ (before + 1) % 2 ^ 64)
