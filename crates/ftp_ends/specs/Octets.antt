-- Octets that are on their way, or still to be given.
use Rattle.std.specs.Prelude.{ℕ, List, [], ◌∷◌, Bool, true, false}

-- some octets are there
abbrev pub has_octets : List ℕ → Bool
has_octets [] = false
has_octets (octet ∷ octets) = true
