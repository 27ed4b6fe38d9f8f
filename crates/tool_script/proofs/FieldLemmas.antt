-- What a field says, octet by octet.
use Rattle.std.proofs.Common.{◌≡◌, ◌==◌, ◌<◌, ℕ, Bool, true, false, List, [], ◌∷◌, ◌++◌, Option, Some, None, option_map, Result, Ok, Err, refl, sym, ap, ◌∙◌, append_assoc, length, arith}
use Rattle.std.specs.Prelude.{IfOk, IfErr, if◌then◌else◌}
use Rattle.ftp_facts.specs.Value.{and_then}
use Rattle.tool_script.specs.declared.fault.LineFault.{LineFault}
use Rattle.tool_script.specs.declared.fault.LineFault.TheVariants.{Unfit, Memory}
use Rattle.tool_script.specs.Field.{FieldState, Between, Escape, High, Low, SaysOn, backslash, digits_octet, is_plain, letter_octet, said_before, said_from, with_front}

-- nothing is said before
pub silent : (said : Option (List ℕ)) → option_map (said_before None) said ≡ said
silent None = refl
silent (Some octets) = refl

-- nothing stands in front
pub alone : (rest : Option (List ℕ)) → with_front [] rest ≡ rest
alone None = refl
alone (Some octets) = refl

-- a row that is said behind another
pub rows_said : (old front : List ℕ) (rest : Option (List ℕ)) → with_front old (with_front front rest) ≡ with_front (old ++ front) rest
rows_said old front None = refl
rows_said old front (Some octets) = ap Some (sym (append_assoc old front octets))

-- octets that are said, and others behind them
pub led : (octet : ℕ) (front : List ℕ) (rest : Option (List ℕ)) → option_map (said_before (Some octet)) (with_front front rest) ≡ with_front (octet ∷ front) rest
led octet front None = refl
led octet front (Some octets) = refl

-- ---- where an octet leads

-- what is said from a turn on
abbrev pub from_turn : List ℕ → Option (FieldState × Option ℕ) → Option (List ℕ)
from_turn rest t = and_then t (λ t. option_map (said_before t.1) (said_from rest t.0))

-- where an octet leads by two tests
abbrev pub begun : ℕ → Bool → Bool → Option (FieldState × Option ℕ)
begun octet slash plain = if slash then Some (Escape, None) else (if plain then Some (Between, Some octet) else None)

-- where the end of an escape leads
abbrev pub ended : Option ℕ → Option (FieldState × Option ℕ)
ended octet = option_map (λ octet. (Between, Some octet)) octet

-- where the octet behind a backslash leads
abbrev escaped : ℕ → Bool → Option (FieldState × Option ℕ)
escaped letter digits = if digits then Some (High, None) else ended (letter_octet letter)

abbrev SaysOctet : ℕ → (text behind : List ℕ) → FieldState → Type 0
SaysOctet octet text behind place = said_from text place ≡ option_map (said_before (Some octet)) (said_from behind Between)

pub slash : (octet : ℕ) (behind : List ℕ) → (octet == backslash) ≡ true → said_from (octet ∷ behind) Between ≡ said_from behind Escape
slash octet behind is = ap (λ b. from_turn behind (begun octet b (is_plain octet))) is ∙ silent (said_from behind Escape)

pub itself : (octet : ℕ) (behind : List ℕ) → (octet == backslash) ≡ false → is_plain octet ≡ true → SaysOctet octet (octet ∷ behind) behind Between
itself octet behind other plain = ap (λ b. from_turn behind (begun octet b (is_plain octet))) other ∙ ap (λ b. from_turn behind (begun octet false b)) plain

pub digits : (letter : ℕ) (behind : List ℕ) → (letter == 120) ≡ true → said_from (letter ∷ behind) Escape ≡ said_from behind High
digits letter behind is = ap (λ b. from_turn behind (escaped letter b)) is ∙ silent (said_from behind High)

pub by_digits : (high low octet : ℕ) (behind : List ℕ) → digits_octet high low ≡ Some octet → SaysOctet octet (high ∷ low ∷ behind) behind High
by_digits high low octet behind is = silent (said_from (low ∷ behind) (Low high)) ∙ ap (λ o. from_turn behind (ended o)) is

pub too_few : (text : List ℕ) → length text < 2 → said_from text High ≡ None
too_few [] less = refl
too_few (digit ∷ []) less = refl
too_few (high ∷ low ∷ text) less = absurd (omega (arith, less))

-- ---- what is said then

-- a row is put, and what is behind it is left
pub puts : {Rest : Type 0} (seen : Rest → List ℕ) (text front behind : List ℕ) (place : FieldState) (old new : List ℕ) (r : Result Rest LineFault)
    → said_from text place ≡ with_front front (said_from behind Between) → IfOk r (λ left. (seen left ≡ behind) × (new ≡ old ++ front)) → IfErr r (λ fault. fault ≡ Memory)
    → SaysOn seen text place old new r
puts seen text front behind place old new (Ok left) says put fault =
    ap (with_front old) says ∙ rows_said old front (said_from behind Between)
    ∙ sym (ap (λ l. with_front l (said_from (seen left) Between)) put.1 ∙ ap (λ s. with_front (old ++ front) (said_from s Between)) put.0)
puts seen text front behind place old new (Err Unfit) says put fault = absurd (cc)
puts seen text front behind place old new (Err Memory) says put fault = tt
