-- What the line of an entry is written into, as octets that it has and room that it has for certain.
use Rattle.std.specs.Prelude.{◌≡◌, ℕ, ◌+◌, ◌*◌, ◌≤◌, List, ◌++◌, length}

-- the octets have grown, or are as they were
abbrev pub GoesOn : List ℕ → List ℕ → Type 0
GoesOn old new = (more : List ℕ) × (new ≡ old ++ more)

-- a text stands behind what was there, in the form that texts have there; no octet of it took more than two of the room
pub record Writes {S : Type 0} (held : S → List ℕ) (form : List ℕ → List ℕ) (left : S → ℕ) (text : List ℕ) (old new : S) : Type 0 where
  pub octets : held new ≡ held old ++ form text
  pub room : left old ≤ left new + 2 * length text

-- a text was refused, a part of it may stand there; so much room was not there
pub record WritesPart {S : Type 0} (held : S → List ℕ) (left : S → ℕ) (text : List ℕ) (old new : S) : Type 0 where
  pub front : GoesOn (held old) (held new)
  pub full : left old ≤ 2 * length text
