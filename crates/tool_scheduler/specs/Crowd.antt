-- Whose slot an address has that has none (own choice): of the address that has the most, where its transfer does not move.
use Rattle.std.specs.Prelude.{ℕ, ◌+◌, eqb, max, nat_lt, position, Bool, false, ◌&&◌, List, [], ◌∷◌, Option, Some, None, if◌then◌else◌}
use Rattle.tool_scheduler.specs.declared.crowd.Sitting.{Sitting}

-- a slot is that of a client who counts as this one
abbrev pub is_of : ℕ → Option Sitting → Bool
is_of host (Some sitting) = eqb sitting.host host
is_of host None = false

-- how many slots an address has
abbrev pub slots_of : ℕ → List (Option Sitting) → ℕ
slots_of host [] = 0
slots_of host (slot ∷ slots) = if is_of host slot then slots_of host slots + 1 else slots_of host slots

-- how many slots the address of a session has whose transfer does not move; else none
abbrev pub claim : List (Option Sitting) → Option Sitting → ℕ
claim slots None = 0
claim slots (Some sitting) = if sitting.moves then 0 else slots_of sitting.host slots

-- the greatest claim of those in the second list
abbrev pub most : (slots of : List (Option Sitting)) → ℕ
most slots [] = 0
most slots (slot ∷ rest) = max (claim slots slot) (most slots rest)

-- how long a slot was silent, where its claim is so great
abbrev pub quiet_by : List (Option Sitting) → ℕ → Option Sitting → ℕ
quiet_by slots most None = 0
quiet_by slots most (Some sitting) = if eqb (claim slots (Some sitting)) most then sitting.quiet else 0

-- the longest silence of those in the second list whose claim is so great
abbrev pub longest : (slots : List (Option Sitting)) → ℕ → (of : List (Option Sitting)) → ℕ
longest slots most [] = 0
longest slots most (slot ∷ rest) = max (quiet_by slots most slot) (longest slots most rest)

-- a slot has so great a claim, and was silent for so long
abbrev pub is_longest : List (Option Sitting) → (most quiet : ℕ) → Option Sitting → Bool
is_longest slots most quiet None = false
is_longest slots most quiet (Some sitting) = eqb (claim slots (Some sitting)) most && eqb sitting.quiet quiet

-- the first of them
unfoldable pub first_longest : List (Option Sitting) → (most quiet : ℕ) → Option ℕ
first_longest slots most quiet = position (is_longest slots most quiet) slots

-- who gives a slot to an address that has none: nobody, where no address has two slots and a transfer that does not move
abbrev pub crowded_place : List (Option Sitting) → Option ℕ
crowded_place slots = if nat_lt (most slots slots) 2 then None else first_longest slots (most slots slots) (longest slots (most slots slots) slots)
