-- Tests and relations of numbers: what the values that texts write rest on.
use Rattle.std.proofs.Common.{◌≡◌, ℕ, ◌+◌, ◌<◌, ◌≤◌, Bool, true, false, ◌&&◌, List, [], ◌∷◌, length, Option, Some, None, refl, ap, sym, ◌∙◌, arith}
use Rattle.std.specs.Prelude.{nat_le}
use Rattle.std.specs.Bool.{then_some}
use Rattle.std.specs.Char.{digit_value, is_ascii_digit}
use Rattle.std.specs.List.{list_all}
use Rattle.std.specs.Option.{is_some, unwrap_or}
use Rattle.std.specs.Str.Parse.{AllDigits, digits_value}
use Rattle.std.proofs.lemmas.Bool.Decides.{nat_tests}
use Rattle.std.proofs.lemmas.Str.{digit_value_digit}
use Rattle.ftp_endpoint.specs.Number.{IsNumber, SaysNumber, digit_limit}
use Rattle.ftp_endpoint.proofs.NumberLemmas.{is_digit, digit_bounds}
use Rattle.ftp_facts.specs.Value.{are_digits, is_number_within, number_value}

-- a value that is given
pub given_is : {X : Type 0} (holds : Bool) (x y : X) → then_some holds x ≡ Some y → (holds ≡ true) × (x ≡ y)
given_is true x y is = (refl, ap (λ o. unwrap_or o x) is)
given_is false x y is = absurd (let e : false ≡ true = ap is_some is in cc)

pub is_given : {X : Type 0} (holds : Bool) (x : X) → holds ≡ true → then_some holds x ≡ Some x
is_given holds x is = rw is refl

pub both : (a b : Bool) → (a && b) ≡ true → (a ≡ true) × (b ≡ true)
both true b is = (refl, is)
both false b is = absurd (let e : false ≡ true = is in cc)

pub and_both : (a b : Bool) → a ≡ true → b ≡ true → (a && b) ≡ true
and_both a b one other = rw (one, other) refl

-- decimal digits, as a test and as a relation
pub all_digits : (text : List ℕ) → list_all is_ascii_digit text ≡ true → AllDigits 10 text
all_digits [] is = tt
all_digits (c ∷ text) is =
    let parts = both (is_ascii_digit c) (list_all is_ascii_digit text) is in
    let range = digit_bounds c parts.0 in
    let value : digit_value c + 48 ≡ c = digit_value_digit c (omega (arith, range.0), omega (arith, range.1)) in
    (omega (arith, value, range.1), all_digits text parts.1)

pub digits_all : (text : List ℕ) → AllDigits 10 text → list_all is_ascii_digit text ≡ true
digits_all [] all = refl
digits_all (c ∷ text) all = and_both _ _ (is_digit c all.0) (digits_all text all.1)

pub at_most : (n m : ℕ) → nat_le n m ≡ true → n ≤ m
at_most n m is = grind (arith, nat_tests)

pub is_at_most : (n m : ℕ) → n ≤ m → nat_le n m ≡ true
is_at_most n m le = grind (arith, nat_tests)

-- what the tests of a number say
pub record Within (most low high : ℕ) (digits : List ℕ) : Type 0 where
  pub some : 0 < length digits
  pub short : length digits ≤ most
  pub all : AllDigits 10 digits
  pub least : low ≤ digits_value 10 digits
  pub greatest : digits_value 10 digits ≤ high

pub within_says : (most low high : ℕ) (digits : List ℕ) → is_number_within most low high digits ≡ true → Within most low high digits
within_says most low high digits is =
    let a = both _ _ is in
    let b = both _ _ a.0 in
    let c = both _ _ b.0 in
    let d = both _ _ c.0 in
    record {
      some = at_most 1 (length digits) d.0;
      short = at_most (length digits) most d.1;
      all = all_digits digits c.1;
      least = at_most low (digits_value 10 digits) b.1;
      greatest = at_most (digits_value 10 digits) high a.1;
    }

pub says_within : (most low high : ℕ) (digits : List ℕ) → Within most low high digits → is_number_within most low high digits ≡ true
says_within most low high digits w =
    and_both _ _ (and_both _ _ (and_both _ _ (and_both _ _ (is_at_most 1 (length digits) w.some) (is_at_most (length digits) most w.short))
    (digits_all digits w.all)) (is_at_most low (digits_value 10 digits) w.least)) (is_at_most (digits_value 10 digits) high w.greatest)

pub number_says : (text : List ℕ) (value : ℕ) → number_value text ≡ Some value → SaysNumber text value
number_says text value is =
    let parts = given_is (are_digits digit_limit text) (digits_value 10 text) value is in
    let a = both _ _ parts.0 in
    let b = both _ _ a.0 in
    (((at_most 1 (length text) b.0, all_digits text a.1), at_most (length text) digit_limit b.1), sym parts.1)

pub says_number : (text : List ℕ) (value : ℕ) → SaysNumber text value → number_value text ≡ Some value
says_number text value says =
    let tests : are_digits digit_limit text ≡ true =
    and_both _ _ (and_both _ _ (is_at_most 1 (length text) says.0.0.0) (is_at_most (length text) digit_limit says.0.1)) (digits_all text says.0.0.1) in
    is_given (are_digits digit_limit text) (digits_value 10 text) tests ∙ ap Some (sym says.1)

pub no_number : (text : List ℕ) → ¬ IsNumber text → number_value text ≡ None
no_number text none = by_value (number_value text) refl
  where
    by_value : (value : Option ℕ) → number_value text ≡ value → value ≡ None
    by_value None e = refl
    by_value (Some n) e = absurd (none (number_says text n e).0)
