-- Digits: what a loop over them keeps, and where a row of them ends.
use Rattle.std.proofs.Common.{◌≡◌, ℕ, ◌+◌, ◌-◌, ◌*◌, ◌^◌, ◌<◌, ◌≤◌, true, false, List, [], ◌∷◌, ◌++◌, length, take, get_or, refl, sym, arith, length-take, add_comm, add-one}
use Rattle.std.specs.Char.{digit_value, is_ascii_digit}
use Rattle.std.specs.Int.{IsInRange}
use Rattle.std.specs.List.{prefix_len}
use Rattle.std.specs.Str.Parse.{AllDigits, digits_value}
use Rattle.std.proofs.lemmas.Bool.Decides.{nat_tests}
use Rattle.std.proofs.lemmas.Int.Digits.{digits_value-lt, digits_value_more, digits_more}
use Rattle.std.proofs.lemmas.List.Sums.{prefix_len_is}
use Rattle.std.proofs.lemmas.Str.{digit_value_digit}
use Rattle.std.proofs.lemmas.Str.Parse.{digit_at, digit_from_value}
use Rattle.std.proofs.Math.Nat.{pow-le-pow_right}

-- eighteen digits write a number below 10 to the 18
pub value_lt : (ds : List ℕ) → AllDigits 10 ds → length ds ≤ 18 → digits_value 10 ds < 10 ^ 18
value_lt ds all short =
    let small = digits_value-lt 10 ds all in
    let grows : 10 ^ length ds ≤ 10 ^ 18 = pow-le-pow_right {n = 10} (let p : 0 < 10 = omega arith in p) short in
    omega (arith, small, grows)

-- one digit more, in a text of at most eighteen octets
pub record OneMore (text : List ℕ) (i v : ℕ) : Type 0 where
  pub all : AllDigits 10 (take (i + 1) text)
  pub value : v ≡ digits_value 10 (take (i + 1) text)
  pub bound : v < 10 ^ 18

pub one_more : (text : List ℕ) (i v c : ℕ) → i < length text → length text ≤ 18 → AllDigits 10 (take i text) → v ≡ digits_value 10 (take i text) → c ≡ get_or text i 0 → 48 ≤ c → c ≤ 57 → OneMore text i (10 * v + (c - 48))
one_more text i v c within short all is at low high =
    let digit : digit_value (get_or text i 0) + 48 ≡ get_or text i 0 = digit_value_digit (get_or text i 0) (omega arith, omega arith) in
    let more = digits_more 10 text i within all (omega arith) in
    let step = digits_value_more 10 text i within in
    let value : 10 * v + (c - 48) ≡ digits_value 10 (take (i + 1) text) = omega (arith, step, digit, is, at) in
    let small = value_lt (take (i + 1) text) more (omega (arith, length-take (i + 1) text)) in
    record { all = more; value = value; bound = omega (arith, small, value) }

-- an octet that is a digit, and one that is none, by its value
pub digit_bounds : (c : ℕ) → is_ascii_digit c ≡ true → IsInRange 48 57 c
digit_bounds c is = grind (arith, nat_tests)

pub no_digit : (c : ℕ) → is_ascii_digit c ≡ false → IsInRange 48 57 c → ⊥
no_digit c is_none range = grind (arith, nat_tests)

pub is_digit : (c : ℕ) → digit_value c < 10 → is_ascii_digit c ≡ true
is_digit c small =
    let range : IsInRange 48 57 c = digit_from_value c small in
    grind (arith, nat_tests)

-- where an octet is no digit, a row of digits it is not
pub not_all : (text : List ℕ) (i : ℕ) → i < length text → is_ascii_digit (get_or text i 0) ≡ false → AllDigits 10 text → ⊥
not_all text i within none all = no_digit (get_or text i 0) none (digit_at text i all within)

-- where a run of digits ends
pub run_is : (text : List ℕ) (n : ℕ) → n ≤ length text → ((k : ℕ) → k < n → is_ascii_digit (get_or text k 0) ≡ true) → (n < length text → is_ascii_digit (get_or text n 0) ≡ false) → n ≡ prefix_len is_ascii_digit text
run_is text n within all stops = sym (prefix_len_is is_ascii_digit text n 0 within all stops)

pub run_whole : (text : List ℕ) (n : ℕ) → length text ≤ n → ((k : ℕ) → k < n → is_ascii_digit (get_or text k 0) ≡ true) → length text ≡ prefix_len is_ascii_digit text
run_whole text n past all = run_is text (length text) (omega arith) (λ k lt. all k (omega arith)) (λ lt. absurd (omega arith))

-- a run of digits before an octet that is none
pub run_before : (ds : List ℕ) (d : ℕ) (more : List ℕ) → AllDigits 10 ds → is_ascii_digit d ≡ false → prefix_len is_ascii_digit (ds ++ d ∷ more) ≡ length ds
run_before [] d more all none = rw none refl
run_before (c ∷ ds) d more all none =
    let digit = is_digit c all.0 in
    let rest = run_before ds d more all.1 none in
    rw (digit, rest, add_comm) (rw add-one refl)
