-- What numbers, ports and counts say as values of options (own choice).
use Rattle.std.specs.Prelude.{◌≡◌, ◌==◌, ◌<◌, ◌≤◌, ◌^◌, ⊤, ℕ, Bool, List, Option, Some, None, codes, length}
use Rattle.std.specs.List.{after_first, before_first, position_or_len}
use Rattle.std.specs.Str.Parse.{IsNumeral, digits_value}
use Rattle.tool_serve.specs.declared.sessions.SessionCount.{SessionCount}
use Rattle.tool_serve.specs.declared.sessions.SessionCount.TheVariants.{Count, Forever}

-- a decimal number below this one: digits alone, leading zeros too
abbrev pub SaysBelow : ℕ → List ℕ → ℕ → Type 0
SaysBelow limit word n = IsNumeral 10 word × (n ≡ digits_value 10 word) × (n < limit)

-- a number below 2 ^ 32 is what its word says, and without one this one
abbrev pub SaysNumberOr : Option (List ℕ) → ℕ → ℕ → Type 0
SaysNumberOr None unsaid number = number ≡ unsaid
SaysNumberOr (Some word) unsaid number = SaysBelow (2 ^ 32) word number

-- a number below 2 ^ 32, if a word is given
abbrev pub SaysIfGiven : Option (List ℕ) → Option ℕ → Type 0
SaysIfGiven None None = ⊤
SaysIfGiven None (Some number) = ⊥
SaysIfGiven (Some word) None = ⊥
SaysIfGiven (Some word) (Some number) = SaysBelow (2 ^ 32) word number

-- a port, where 0 stands for one that the system chooses
abbrev pub SaysPortOrZero : List ℕ → ℕ → Type 0
SaysPortOrZero word port = SaysBelow (2 ^ 16) word port

-- the port of a server, from 1 on
abbrev pub SaysServerPort : List ℕ → ℕ → Type 0
SaysServerPort word port = SaysPortOrZero word port × (1 ≤ port)

-- the octet `-`
abbrev pub is_hyphen : ℕ → Bool
is_hyphen octet = octet == 45

-- A-B: a first port before the first hyphen, and behind it a last one, which is not before the first
abbrev pub SaysPorts : List ℕ → ℕ → ℕ → Type 0
SaysPorts word first last =
    (position_or_len is_hyphen word < length word)
    × SaysServerPort (before_first is_hyphen word) first × SaysServerPort (after_first is_hyphen word) last
    × (first ≤ last)

-- a number below 2 ^ 32, or `forever`
abbrev pub SaysSessions : List ℕ → SessionCount → Type 0
SaysSessions word (Count n) = SaysBelow (2 ^ 32) word n
SaysSessions word Forever = word ≡ codes "forever"
