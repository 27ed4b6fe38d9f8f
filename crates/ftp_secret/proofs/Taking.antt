-- How a hasher takes one piece after another.
use Rattle.std.proofs.Common.{◌≡◌, ◌≤◌, ◌≢◌, ℕ, zero, suc, ◌+◌, ◌/◌, ◌%◌, ◌==◌, List, [], ◌++◌, ap, arith, refl, add-one, true, false, append_assoc, append-nil, if◌then◌else◌}
use Rattle.ftp_secret.specs.Crypt.{by_digits, repeated}
use Rattle.ftp_secret.specs.Hashing.{Takes}
use Rattle.ftp_secret.specs.declared.hashing.Hasher.{Hasher}

-- nothing is taken where nothing is done
pub takes_none : (a : Hasher) → Takes a [] a
takes_none a method before held = rw append-nil held

-- one piece after another
pub takes_both : (a b c : Hasher) (x y : List ℕ) → Takes a x b → Takes b y c → Takes a (x ++ y) c
takes_both a b c x y first second method before held =
    rw (← append_assoc before x y) (second method (before ++ x) (first method before held))

-- no copy is nothing
pub repeated_none : (x : List ℕ) → repeated x 0 ≡ []
unfolding repeated
repeated_none x = refl

-- one copy more
pub repeated_more : (x : List ℕ) (n : ℕ) → repeated x (n + 1) ≡ repeated x n ++ x
unfolding repeated
repeated_more x n = rw (add-one n) refl

pub takes_no_copy : (a : Hasher) (x : List ℕ) → Takes a (repeated x 0) a
takes_no_copy a x = rw (repeated_none x) (takes_none a)

pub takes_copy : (a b c : Hasher) (x : List ℕ) (n : ℕ) → Takes a (repeated x n) b → Takes b x c → Takes a (repeated x (n + 1)) c
takes_copy a b c x n first second = rw (repeated_more x n) (takes_both a b c (repeated x n) x first second)

-- more digits than the number counts say nothing
pub most_digits : (b x : List ℕ) (most other n : ℕ) → n ≤ most → n ≤ other → by_digits b x most n ≡ by_digits b x other n
unfolding by_digits
most_digits b x zero zero n below beside = refl
most_digits b x zero (suc other) n below beside =
    let none : (n == 0) ≡ true = grind arith in
    rw none refl
most_digits b x (suc most) zero n below beside =
    let none : (n == 0) ≡ true = grind arith in
    rw none refl
most_digits b x (suc most) (suc other) zero below beside = refl
most_digits b x (suc most) (suc other) (suc n) below beside =
    let some : (suc n == 0) ≡ false = grind arith in
    rw some (ap (λ rest. (if suc n % 2 == 1 then b else x) ++ rest)
    (most_digits b x most other (suc n / 2) (omega arith) (omega arith)))

-- no digit of 0
pub no_digit : (b x : List ℕ) (most n : ℕ) → n ≡ 0 → by_digits b x most n ≡ []
unfolding by_digits
no_digit b x zero n none = refl
no_digit b x (suc most) n none =
    let test : (n == 0) ≡ true = grind arith in
    rw test refl

-- the lowest digit, and then those of half the number
pub one_digit : (b x : List ℕ) (n : ℕ) → n ≢ 0 → by_digits b x n n ≡ (if n % 2 == 1 then b else x) ++ by_digits b x (n / 2) (n / 2)
unfolding by_digits
one_digit b x zero some = absurd (some refl)
one_digit b x (suc n) some =
    let test : (suc n == 0) ≡ false = grind arith in
    rw test (ap (λ rest. (if suc n % 2 == 1 then b else x) ++ rest)
    (most_digits b x n (suc n / 2) (suc n / 2) (omega arith) (omega arith)))

pub takes_no_digit : (a : Hasher) (b x : List ℕ) (n : ℕ) → n ≡ 0 → Takes a (by_digits b x n n) a
takes_no_digit a b x n none = rw (no_digit b x n n none) (takes_none a)

pub takes_digit : (a c d : Hasher) (b x piece : List ℕ) (n : ℕ) → n ≢ 0 → piece ≡ (if n % 2 == 1 then b else x)
    → Takes a piece c → Takes c (by_digits b x (n / 2) (n / 2)) d → Takes a (by_digits b x n n) d
takes_digit a c d b x piece n some is first second =
    rw (one_digit b x n some, ← is) (takes_both a c d piece (by_digits b x (n / 2) (n / 2)) first second)
