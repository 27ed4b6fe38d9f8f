-- Patterns of names and paths, as a shell has them (own choice): `*` is any octets but a slash, `?` is one, and any other octet is itself.
use Rattle.std.specs.Prelude.{ℕ, ◌+◌, ◌==◌, ◌&&◌, ◌||◌, Bool, false, not, List, [], ◌∷◌, length, if◌then◌else◌}
use Rattle.std.specs.List.{list_any}
use Rattle.tool_listing.specs.declared.pattern.pattern.Meeting.{Meeting}
use Rattle.tool_listing.specs.declared.pattern.pattern.Meeting.TheVariants as Meetings

abbrev pub slash : ℕ
slash = 47

abbrev pub star : ℕ
star = 42

abbrev pub question : ℕ
question = 63

-- an octet of a pattern that is no star stands for this octet
abbrev pub is_octet : ℕ → ℕ → Bool
is_octet wanted octet = (wanted == octet) || ((wanted == question) && not (octet == slash))

-- one of these holds: of the text, or of what is left of it behind octets that are no slash
abbrev pub some_rest : (List ℕ → Bool) → List ℕ → Bool
some_rest holds [] = holds []
some_rest holds (octet ∷ rest) = holds (octet ∷ rest) || (not (octet == slash) && some_rest holds rest)

-- the first octet of a text is this one, and of the rest this holds
abbrev pub first_then : ℕ → (List ℕ → Bool) → List ℕ → Bool
first_then wanted holds [] = false
first_then wanted holds (octet ∷ rest) = is_octet wanted octet && holds rest

-- a text is of a pattern
abbrev pub matches : List ℕ → List ℕ → Bool
matches [] text = length text == 0
matches (first ∷ pattern) text =
    if first == star then some_rest (matches pattern) text else first_then first (matches pattern) text

-- a front that comes next, of the rest of a text behind an octet that this one stands for
abbrev pub meet_behind : ℕ → (List ℕ → Meeting) → List ℕ → Meeting
meet_behind wanted next [] = Meetings.Apart
meet_behind wanted next (octet ∷ rest) = if is_octet wanted octet then next rest else Meetings.Apart

-- how the octets of a pattern before its first star stand to the front of a text, where so many were met before
abbrev pub meet : ℕ → List ℕ → List ℕ → Meeting
meet met [] text = if length text == 0 then Meetings.Whole else Meetings.Apart
meet met (first ∷ pattern) text = if first == star then Meetings.Star met else meet_behind first (meet (met + 1) pattern) text

-- a text has a first octet, and that is no slash
abbrev pub is_floating : List ℕ → Bool
is_floating [] = false
is_floating (first ∷ rest) = not (first == slash)

-- an octet is a slash
abbrev pub is_slash : ℕ → Bool
is_slash octet = octet == slash

-- a pattern without a slash at its front, which says that it begins at the source
abbrev pub behind_slash : List ℕ → List ℕ
behind_slash [] = []
behind_slash (first ∷ rest) = if first == slash then rest else first ∷ rest

-- a pattern is met by what has this path below the source and this name: by the path where the pattern has a slash, and else by the name
abbrev pub is_met : List ℕ → List ℕ → List ℕ → Bool
is_met path name pattern = if list_any is_slash pattern then matches (behind_slash pattern) path else matches pattern name
