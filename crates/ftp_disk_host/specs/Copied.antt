-- Octets that are copied from a file to another, where they are known.
use Rattle.std.specs.Prelude.{◌≡◌, ℕ, List, Option, length}
use Rattle.std.specs.Io.KnownBytes.{Appends, Consumes}

-- so many octets, the next ones that a reader had, stand at the end of what a writer holds
abbrev pub Copies : ℕ → (from rest to grown : Option (List ℕ)) → Type 0
Copies count from rest to grown = (octets : List ℕ) × (length octets ≡ count) × Consumes from rest octets × Appends to grown octets
