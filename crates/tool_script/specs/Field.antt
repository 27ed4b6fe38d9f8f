-- A field of a script: octets, some of them written by an escape (own choice).
use Rattle.std.specs.Prelude.{◌≡◌, ℕ, ◌+◌, ◌-◌, ◌*◌, ◌/◌, ◌%◌, ◌==◌, ◌&&◌, ◌++◌, Bool, not, nat_le, nat_lt, nat_eq, List, [], ◌∷◌, length, take, flat_map, Option, Some, None, option_map, if◌then◌else◌}
use Rattle.std.specs.Cmp.Lexicographic.{pointwise}
use Rattle.ftp_facts.specs.Value.{and_then}
use Rattle.std.specs.declared.result.Result.{Result}
use Rattle.std.specs.declared.result.Result.TheVariants.{Ok, Err}
use Rattle.tool_script.specs.declared.fault.LineFault.{LineFault}
use Rattle.tool_script.specs.declared.fault.LineFault.TheVariants.{Unfit, Memory}

-- how far a field is read: where an octet or an escape may begin, behind a backslash, behind that and `x`, behind the first digit
pub data FieldState : Type 0 where
  Between Escape High : FieldState
  Low : (high : ℕ) → FieldState

-- the octet that begins an escape
abbrev pub backslash : ℕ
backslash = 92

-- an octet that stands for itself: 33 to 126, and no backslash
abbrev pub is_plain : ℕ → Bool
is_plain octet = nat_le 33 octet && nat_le octet 126 && not (octet == backslash)

-- the octet of a letter behind a backslash: `s` SP, `n` LF, `r` CR, and a backslash itself
abbrev pub letter_octet : ℕ → Option ℕ
letter_octet letter =
    if letter == 115 then Some 32
    else (if letter == 110 then Some 10 else (if letter == 114 then Some 13 else (if letter == backslash then Some backslash else None)))

-- the value of a hexadecimal digit, in small letters
abbrev pub digit_value : ℕ → Option ℕ
digit_value digit =
    if nat_le 48 digit && nat_le digit 57 then Some (digit - 48) else (if nat_le 97 digit && nat_le digit 102 then Some (digit - 87) else None)

-- the same, with 255 for what is no digit
abbrev pub digit_or_255 : ℕ → ℕ
digit_or_255 digit =
    if nat_le 48 digit && nat_le digit 57 then digit - 48 else (if nat_le 97 digit && nat_le digit 102 then digit - 87 else 255)

-- the octet of two such digits
abbrev pub digits_octet : ℕ → ℕ → Option ℕ
digits_octet high low = and_then (digit_value high) (λ h. option_map (λ l. 16 * h + l) (digit_value low))

-- what an octet of a field leads to, and the octet that is said by then: an escape is a backslash and a letter, or a backslash, `x` and two digits
abbrev pub turn : FieldState → ℕ → Option (FieldState × Option ℕ)
turn Between octet =
    if octet == backslash then Some (Escape, None) else (if is_plain octet then Some (Between, Some octet) else None)
turn Escape letter = if letter == 120 then Some (High, None) else option_map (λ octet. (Between, Some octet)) (letter_octet letter)
turn High digit = Some (Low digit, None)
turn (Low high) low = option_map (λ octet. (Between, Some octet)) (digits_octet high low)

-- the octet that is said, if one is, and others
abbrev pub said_before : Option ℕ → List ℕ → List ℕ
said_before None octets = octets
said_before (Some octet) octets = octet ∷ octets

-- the octets that a text says from a place on
abbrev pub said_from : List ℕ → FieldState → Option (List ℕ)
said_from [] Between = Some []
said_from [] Escape = None
said_from [] High = None
said_from [] (Low high) = None
said_from (octet ∷ text) place = and_then (turn place octet) (λ t. option_map (said_before t.1) (said_from text t.0))

-- octets, and then others, where there are others
abbrev pub with_front : List ℕ → Option (List ℕ) → Option (List ℕ)
with_front front rest = option_map (λ octets. front ++ octets) rest

-- what a text says behind some octets is what is left of it says behind those that are there then; or the text says nothing
abbrev pub SaysOn : {Rest : Type 0} → (Rest → List ℕ) → (text : List ℕ) → FieldState → (old new : List ℕ) → Result Rest LineFault → Type 0
SaysOn seen text place old new (Ok rest) = with_front old (said_from text place) ≡ with_front new (said_from (seen rest) Between)
SaysOn seen text place old new (Err Unfit) = said_from text place ≡ None
SaysOn seen text place old new (Err Memory) = Unit {0}

-- a text says this octet first, and then what is left of it; or it says nothing
abbrev pub SaysFirst : {Rest : Type 0} → (Rest → List ℕ) → (text : List ℕ) → FieldState → Option (ℕ × Rest) → Type 0
SaysFirst seen text place (Some said) = said_from text place ≡ option_map (said_before (Some said.0)) (said_from (seen said.1) Between)
SaysFirst seen text place None = said_from text place ≡ None

-- a text says so many octets of a room first, and then what is left of it; or it says nothing
abbrev pub SaysFront : {Rest : Type 0} → (Rest → List ℕ) → (text room : List ℕ) → Option (ℕ × Rest) → Type 0
SaysFront seen text room (Some filled) = said_from text Between ≡ with_front (take filled.0 room) (said_from (seen filled.1) Between)
SaysFront seen text room None = said_from text Between ≡ None

-- a text in front of others says what these octets have more than those
abbrev pub SayFront : (text old new : List ℕ) → Type 0
SayFront text old new = (rest : List ℕ) → with_front old (said_from (text ++ rest) Between) ≡ with_front new (said_from rest Between)

-- `\e`, the field of no octets
abbrev pub empty_field : List ℕ
empty_field = 92 ∷ 101 ∷ []

-- the octets that a field says: `\e` says none, and a text of no octet is no field
abbrev pub field_value : List ℕ → Option (List ℕ)
field_value text =
    if pointwise nat_eq text empty_field then Some [] else (if length text == 0 then None else said_from text Between)

-- a hexadecimal digit
abbrev pub digit_octet : ℕ → ℕ
digit_octet value = if nat_lt value 10 then 48 + value else 87 + value

-- an octet by its digits
abbrev pub digits_written : ℕ → List ℕ
digits_written octet = backslash ∷ 120 ∷ digit_octet (octet / 16) ∷ digit_octet (octet % 16) ∷ []

-- an octet that has no letter, as a field has it
abbrev pub other_written : ℕ → List ℕ
other_written octet = if is_plain octet then octet ∷ [] else digits_written octet

-- an octet as a field has it
abbrev pub written : ℕ → List ℕ
written octet =
    if octet == 32 then backslash ∷ 115 ∷ []
    else (if octet == 10 then backslash ∷ 110 ∷ []
    else (if octet == 13 then backslash ∷ 114 ∷ []
    else (if octet == backslash then backslash ∷ backslash ∷ [] else other_written octet)))

-- the field that says these octets
abbrev pub field_text : List ℕ → List ℕ
field_text octets = if length octets == 0 then empty_field else flat_map written octets
