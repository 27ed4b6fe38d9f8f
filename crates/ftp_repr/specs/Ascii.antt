-- Type A: line ends on the wire (RFC 959, section 3.1.1.1).
use Rattle.std.specs.Prelude.{◌≡◌, ◌≢◌, ℕ, List, [], ◌∷◌, map, if◌then◌else◌, ◌==◌}
use Rattle.std.specs.List.{flat_map}

-- LF goes as CR LF, CR as CR NUL, any other octet as itself
abbrev pub ascii_octet : ℕ → List ℕ
ascii_octet c = if c == 10 then 13 ∷ 10 ∷ [] else (if c == 13 then 13 ∷ 0 ∷ [] else c ∷ [])

-- what octets of a file go as: each of them by itself
abbrev pub asc : List ℕ → List ℕ
asc b = flat_map ascii_octet b

-- what octets of the wire read as that have ended: CR LF is LF, CR NUL is CR, and (own choice) any other CR or LF is
-- itself, the last octet too
unfoldable pub plain : List ℕ → List ℕ
plain [] = []
plain (c ∷ []) = c ∷ []
plain (c ∷ d ∷ w) =
    if c == 13 then (if d == 10 then 10 ∷ plain w else (if d == 0 then 13 ∷ plain w else 13 ∷ plain (d ∷ w)))
    else c ∷ plain (d ∷ w)

-- what octets of the wire settle that were cut: the same, but a CR at their end settles nothing
unfoldable pub settled : List ℕ → List ℕ
settled [] = []
settled (c ∷ []) = if c == 13 then [] else c ∷ []
settled (c ∷ d ∷ w) =
    if c == 13 then (if d == 10 then 10 ∷ settled w else (if d == 0 then 13 ∷ settled w else 13 ∷ settled (d ∷ w)))
    else c ∷ settled (d ∷ w)

-- a unit of the wire: CR LF, CR NUL, or an octet by itself
pub data AsciiUnit : Type 0 where
  line_end carriage_return : AsciiUnit
  other : (c : ℕ) → AsciiUnit

-- a unit's octets on the wire
abbrev pub unit_wire : AsciiUnit → List ℕ
unit_wire line_end = 13 ∷ 10 ∷ []
unit_wire carriage_return = 13 ∷ 0 ∷ []
unit_wire (other c) = c ∷ []

-- the octet of the file that it stands for
abbrev pub unit_octet : AsciiUnit → ℕ
unit_octet line_end = 10
unit_octet carriage_return = 13
unit_octet (other c) = c

-- neither LF nor NUL comes first
abbrev pub PairsWithNoReturn : List ℕ → Type 0
PairsWithNoReturn [] = Unit {0}
PairsWithNoReturn (d ∷ w) = (d ≢ 10) × (d ≢ 0)

-- own choice: CR is a unit by itself only where neither LF nor NUL follows
abbrev pub AreUnits : List AsciiUnit → Type 0
AreUnits [] = Unit {0}
AreUnits (line_end ∷ us) = AreUnits us
AreUnits (carriage_return ∷ us) = AreUnits us
AreUnits (other c ∷ us) = (c ≡ 13 → PairsWithNoReturn (flat_map unit_wire us)) × AreUnits us

-- the wire w, ended, is read as b: it is a row of units, and b has an octet for each
pub record IsAscii (w b : List ℕ) : Type 0 where
  pub units : List AsciiUnit
  pub are : AreUnits units
  pub wire : w ≡ flat_map unit_wire units
  pub file : b ≡ map unit_octet units
