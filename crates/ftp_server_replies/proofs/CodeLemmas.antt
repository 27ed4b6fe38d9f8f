-- The code that stands at a place of some octets.
use Rattle.std.proofs.Common.{◌≡◌, ℕ, zero, suc, ◌+◌, ◌-◌, ◌*◌, Bool, true, false, ◌&&◌, List, [], ◌∷◌, drop, Option, Some, None, refl, sym, ap, ◌∙◌, arith}
use Rattle.std.specs.Prelude.{if◌then◌else◌}
use Rattle.std.specs.Char.{is_ascii_digit}
use Rattle.std.specs.List.{slice_get}
use Rattle.ftp_server_model.specs.Heard.{code_in}
use Rattle.ftp_server_replies.specs.Codes.{digit_in, of_three}

-- each of three octets is a digit, or one is not
by_tests : (p q r : Bool) (x y z : ℕ) → of_three (if p then Some x else None) (if q then Some y else None) (if r then Some z else None)
    ≡ (if p && (q && r) then Some (100 * x + (10 * y + z)) else None)
by_tests true true true x y z = refl
by_tests true true false x y z = refl
by_tests true false r x y z = refl
by_tests false q r x y z = refl

-- the code in front of some octets
first_three : (xs : List ℕ) → of_three (digit_in (slice_get xs 0)) (digit_in (slice_get xs 1)) (digit_in (slice_get xs 2)) ≡ code_in xs
first_three [] = refl
first_three (a ∷ []) = no_second (digit_in (Some a)) None
  where
    no_second : (x y : Option ℕ) → of_three x None y ≡ None
    no_second None y = refl
    no_second (Some x) y = refl
first_three (a ∷ b ∷ []) = no_third (digit_in (Some a)) (digit_in (Some b))
  where
    no_third : (x y : Option ℕ) → of_three x y None ≡ None
    no_third None y = refl
    no_third (Some x) None = refl
    no_third (Some x) (Some y) = refl
first_three (a ∷ b ∷ c ∷ rest) = by_tests (is_ascii_digit a) (is_ascii_digit b) (is_ascii_digit c) (a - 48) (b - 48) (c - 48)

-- so many octets in front of it are passed over
at_place : (place n : ℕ) (xs : List ℕ) → slice_get xs (place + n) ≡ slice_get (drop place xs) n
at_place zero n xs = let same : 0 + n ≡ n = omega arith in ap (slice_get xs) same
at_place (suc place) n [] = refl
at_place (suc place) n (x ∷ xs) = let same : suc place + n ≡ suc (place + n) = omega arith in ap (slice_get (x ∷ xs)) same ∙ at_place place n xs

pub code_at : (place : ℕ) (xs : List ℕ) → of_three (digit_in (slice_get xs place)) (digit_in (slice_get xs (place + 1))) (digit_in (slice_get xs (place + 2))) ≡ code_in (drop place xs)
code_at place xs =
    let same : place + 0 ≡ place = omega arith in
    ap (λ o. of_three (digit_in o) (digit_in (slice_get xs (place + 1))) (digit_in (slice_get xs (place + 2)))) (sym (ap (slice_get xs) same) ∙ at_place place 0 xs)
    ∙ ap (λ o. of_three (digit_in (slice_get (drop place xs) 0)) (digit_in o) (digit_in (slice_get xs (place + 2)))) (at_place place 1 xs)
    ∙ ap (λ o. of_three (digit_in (slice_get (drop place xs) 0)) (digit_in (slice_get (drop place xs) 1)) (digit_in o)) (at_place place 2 xs)
    ∙ first_three (drop place xs)
