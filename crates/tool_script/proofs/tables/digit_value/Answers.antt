-- The table is held against the definition at each octet.
use Rattle.std.proofs.Common.{◌≡◌, ◌<◌, ◌≤◌, ◌∙◌, ◌∷◌, [], ℕ, Bool, true, List, Option, Some, None, get_or, refl, sym, ap, arith}
use Rattle.std.proofs.lemmas.Bool.{le-ltb, lt-ltb}
use Rattle.std.specs.Prelude.{if◌then◌else◌, nat_lt}
use Rattle.tool_script.specs.Field.{digit_value}
use Rattle.tool_script.specs.declared.tables.TheConstants.{DIGITS}
use Rattle.tool_script.proofs.TableLemmas.{agree_at, agree_below, are_same}
use Rattle.tool_script.proofs.tables.digit_value.Goals as goal

listed : Option ℕ → List ℕ
listed None = []
listed (Some value) = value ∷ []

is_some : (o : Option ℕ) (value : ℕ) → value ∷ [] ≡ listed o → Some value ≡ o
unfolding listed
is_some None value is = absurd (cc)
is_some (Some other) value is = cc

is_none : (o : Option ℕ) → [] ≡ listed o → None ≡ o
unfolding listed
is_none None is = refl
is_none (Some other) is = absurd (cc)

-- what the table says of an octet, by whether its value is one of a digit
by_test : ℕ → Bool → List ℕ
by_test value small = if small then value ∷ [] else []

looked : List ℕ → ℕ → List ℕ
looked table octet = by_test (get_or table octet 0) (nat_lt (get_or table octet 0) 16)

some_there : (table : List ℕ) (octet : ℕ) → octet < 256 → get_or table octet 0 < 16
    → agree_below (looked table) (λ k. listed (digit_value k)) 256 ≡ true → Some (get_or table octet 0) ≡ digit_value octet
unfolding listed looked by_test
some_there table octet less small same =
    is_some (digit_value octet) (get_or table octet 0)
    (sym (ap (by_test (get_or table octet 0)) (lt-ltb (get_or table octet 0) 16 small)) ∙ agree_at (looked table) (λ k. listed (digit_value k)) 256 same octet less)

none_there : (table : List ℕ) (octet : ℕ) → octet < 256 → 16 ≤ get_or table octet 0
    → agree_below (looked table) (λ k. listed (digit_value k)) 256 ≡ true → None ≡ digit_value octet
unfolding listed looked by_test
none_there table octet less large same =
    is_none (digit_value octet)
    (sym (ap (by_test (get_or table octet 0)) (le-ltb (get_or table octet 0) 16 large)) ∙ agree_at (looked table) (λ k. listed (digit_value k)) 256 same octet less)

pub returns-then-value-lt16-clause-value : goal.returns-then-value-lt16-clause-value
unfolding listed looked by_test are_same agree_below
returns-then-value-lt16-clause-value c = some_there DIGITS c.args.digit (omega (arith, c.ranges.digit.fits)) c.if-value-lt16.true refl

pub returns-else-value-lt16-clause-value : goal.returns-else-value-lt16-clause-value
unfolding listed looked by_test are_same agree_below
returns-else-value-lt16-clause-value c = none_there DIGITS c.args.digit (omega (arith, c.ranges.digit.fits)) c.if-value-lt16.false refl
