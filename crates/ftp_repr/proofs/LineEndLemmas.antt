-- The first octet that ends a line, in the lanes of vectors and behind them.
use Rattle.std.proofs.Common.{◌≡◌, ◌≢◌, ℕ, zero, suc, ◌+◌, ◌<◌, ◌≤◌, List, [], ◌∷◌, ◌++◌, Bool, true, false, ◌||◌, ◌==◌, eqb, ◌%◌, ◌^◌, cond, length, take, drop, map, min, refl, ap, sym, subst, ◌∙◌, inl, inr, arith}
use Rattle.std.specs.List.{AllByRecursion, prefix_len}
use Rattle.std.proofs.Math.Bool.{not}
use Rattle.std.proofs.lemmas.Bool.{ne_eqb}
use Rattle.std.proofs.lemmas.List.{length-take, take_all}
use Rattle.std.proofs.Math.Seq.{take-add}
use Rattle.std.proofs.lemmas.List.Sums.{prefix_len-le-length}
use Rattle.std.proofs.lemmas.Simd.{bitmask_splat, first_set_mask_l}
use lib.Count.{count_trailing_zeros, trailing_of_zero}
use lib.Lanes.{mask_l, top, zip2}
use lib.ListN.{replicate}
use mir.Syntax.{w8}
use Rattle.ftp_repr.specs.Runs.{IsRun}
use Rattle.ftp_repr.proofs.AsciiLemmas.{decided}
use Rattle.ftp_repr.proofs.RunLemmas.{behind_first}

-- a run as long as another number says
as_long : (p : ℕ → Bool) (w : List ℕ) (n m : ℕ) → n ≡ m → IsRun p w n → IsRun p w m
as_long p w n m same run = let P : ℕ → Type 0 = λ k. IsRun p w k in subst P same run

one_more : (p : ℕ → Bool) (c : ℕ) (w : List ℕ) (n : ℕ) → p c ≡ false → IsRun p w n → IsRun p (c ∷ w) (suc n)
one_more p c w n e run =
    record { within = omega (arith, run.within); others = (e, run.others); next = λ less. run.next (omega (arith, less)) }

-- the octets in front of the first that passes are a run
pub run_is : (p : ℕ → Bool) (w : List ℕ) → IsRun p w (prefix_len (λ c. not (p c)) w)
run_is p [] = record { within = omega arith; others = tt; next = λ less. absurd (omega (arith, less)) }
run_is p (c ∷ w) =
    let len = prefix_len (λ d. not (p d)) w in
    let P : Bool → Type 0 = λ b. IsRun p (c ∷ w) (cond (not b) (1 + len) 0) in
    elim (decided (p c)) [
      | inl e ↦ subst P (sym e) (record { within = omega arith; others = tt; next = λ less. e })
      | inr e ↦ subst P (sym e) (as_long p (c ∷ w) (suc len) (1 + len) (omega arith) (one_more p c w len e (run_is p w)))
    ]

-- the first that passes one of two tests is the first of either
either_step : (a b : Bool) (n m : ℕ) → min (cond (not a) (1 + n) 0) (cond (not b) (1 + m) 0) ≡ cond (not (a || b)) (1 + min n m) 0
either_step true true n m = omega arith
either_step true false n m = omega arith
either_step false true n m = omega arith
either_step false false n m = omega arith

pub either_len : (p q : ℕ → Bool) (w : List ℕ)
    → min (prefix_len (λ c. not (p c)) w) (prefix_len (λ c. not (q c)) w) ≡ prefix_len (λ c. not (p c || q c)) w
either_len p q [] = refl
either_len p q (c ∷ w) =
    either_step (p c) (q c) (prefix_len (λ c. not (p c)) w) (prefix_len (λ c. not (q c)) w)
    ∙ ap (λ n. cond (not (p c || q c)) (1 + n) 0) (either_len p q w)

first_bit : (m n : ℕ) → n ≤ 32 → cond (eqb m 0) 32 (count_trailing_zeros 64 m) ≡ n → min (count_trailing_zeros 64 m) 32 ≡ n
first_bit zero n few is = omega (arith, is, trailing_of_zero 64)
first_bit (suc m) n few is =
    let some : suc m ≢ 0 = omega arith in
    let same : count_trailing_zeros 64 (suc m) ≡ n = ap (λ b. cond b 32 (count_trailing_zeros 64 (suc m))) (sym (ne_eqb (suc m) 0 some)) ∙ is in
    omega (arith, few, same)

-- in a vector of 32 lanes, by the lowest bit of the mask of those that are an octet
pub first_lane : (v : List ℕ) (c : ℕ) → length v ≡ 32
    → min (count_trailing_zeros 64 (mask_l (map (top 7) (zip2 (λ a b. cond (a == b) 255 0) v (replicate 32 c))) % 2 ^ 64)) 32 ≡ prefix_len (λ d. not (d == c)) v
first_lane v c long =
    let mask = bitmask_splat w8 (λ a b. a == b) v 32 c long (omega arith) in
    let few : prefix_len (λ d. not (d == c)) v ≤ 32 = omega (arith, prefix_len-le-length (λ d. not (d == c)) v, long) in
    ap (λ m. min (count_trailing_zeros 64 m) 32) mask ∙ first_bit (mask_l (map (λ d. d == c) v)) (prefix_len (λ d. not (d == c)) v) few (first_set_mask_l (λ d. d == c) v 32 long (omega arith))

-- the octets before a run, and the run
pub run_behind : (p : ℕ → Bool) (w : List ℕ) (at n : ℕ) → at ≤ length w → AllByRecursion (λ c. p c ≡ false) (take at w) → IsRun p (drop at w) n → IsRun p w (at + n)
run_behind p w zero n h passed run = as_long p w n (0 + n) (omega arith) run
run_behind p [] (suc at) n h passed run = absurd (omega (arith, h))
run_behind p (c ∷ w) (suc at) n h passed run =
    as_long p (c ∷ w) (suc (at + n)) (suc at + n) (omega arith) (one_more p c w (at + n) passed.0 (run_behind p w at n (omega (arith, h)) passed.1 run))

-- a run that ends in the first octets
pub run_in_front : (p : ℕ → Bool) (w : List ℕ) (most n : ℕ) → most ≤ length w → n < most → IsRun p (take most w) n → IsRun p w n
run_in_front p w zero n h less run = absurd (omega (arith, less))
run_in_front p [] (suc most) n h less run = absurd (omega (arith, h))
run_in_front p (c ∷ w) (suc most) zero h less run = record { within = omega arith; others = tt; next = λ some. run.next (omega arith) }
run_in_front p (c ∷ w) (suc most) (suc n) h less run =
    let rest = run_in_front p w most n (omega (arith, h)) (omega (arith, less)) (behind_first p c (take most w) n run) in
    record { within = omega (arith, rest.within); others = (run.others.0, rest.others); next = λ some. rest.next (omega (arith, some)) }

-- a run of all the first octets
full_run : (p : ℕ → Bool) (w : List ℕ) (n : ℕ) → length w ≤ n → IsRun p w n → AllByRecursion (λ c. p c ≡ false) w
full_run p w n full run =
    let P : List ℕ → Type 0 = λ l. AllByRecursion (λ c. p c ≡ false) l in
    subst P (take_all n w full) run.others

-- octets behind others
passed_row : (p : ℕ → Bool) (v w : List ℕ) → AllByRecursion (λ c. p c ≡ false) v → AllByRecursion (λ c. p c ≡ false) w → AllByRecursion (λ c. p c ≡ false) (v ++ w)
passed_row p [] w first later = later
passed_row p (c ∷ v) w first later = (first.0, passed_row p v w first.1 later)

pub passed_more : (p : ℕ → Bool) (w : List ℕ) (at most n : ℕ) → most ≤ n
    → AllByRecursion (λ c. p c ≡ false) (take at w) → IsRun p (take most (drop at w)) n → AllByRecursion (λ c. p c ≡ false) (take (at + most) w)
passed_more p w at most n full passed run =
    let P : List ℕ → Type 0 = λ l. AllByRecursion (λ c. p c ≡ false) l in
    let few : length (take most (drop at w)) ≤ n = omega (arith, length-take most (drop at w), full) in
    subst P (sym (take-add at most w)) (passed_row p (take at w) (take most (drop at w)) passed (full_run p (take most (drop at w)) n few run))
