-- Whether something holds, decided: what the reading of lines is put together from.
use Rattle.std.proofs.Common.{◌≡◌, ℕ, zero, suc, ◌≤◌, ◌⊎◌, inl, inr, List, [], ◌∷◌, ◌++◌, Bool, true, false, ◌==◌, refl, sym, ap, subst, arith, eqb-true, eq-eqb}
use Rattle.std.specs.Prelude.{nat_le}
use Rattle.std.proofs.lemmas.Bool.Decides.{nat_tests}

abbrev pub Decided : Type 0 → Type 0
Decided P = P ⊎ (¬ P)

-- ---- put together

pub yes_if : {P Q : Type 0} → (P → Q) → (Q → P) → Decided P → Decided Q
yes_if to from (inl p) = inl (to p)
yes_if to from (inr n) = inr (λ q. n (from q))

pub and_then : {P Q : Type 0} → Decided P → Decided Q → Decided (P × Q)
and_then (inl p) (inl q) = inl (p, q)
and_then (inl p) (inr n) = inr (λ both. n both.1)
and_then (inr n) other = inr (λ both. n both.0)

pub and_both : {P Q R : Type 0} → Decided P → Decided Q → Decided R → Decided (P × Q × R)
and_both (inl p) (inl q) (inl r) = inl (p, q, r)
and_both (inl p) (inl q) (inr n) = inr (λ all. n all.2)
and_both (inl p) (inr n) other = inr (λ all. n all.1)
and_both (inr n) other last = inr (λ all. n all.0)

pub or_else : {P Q : Type 0} → Decided P → Decided Q → Decided (P ⊎ Q)
or_else (inl p) other = inl (inl p)
or_else (inr n) (inl q) = inl (inr q)
or_else {P} {Q} (inr n) (inr m) = inr neither
  where
    neither : P ⊎ Q → ⊥
    neither (inl p) = n p
    neither (inr q) = m q

pub unless : {P : Type 0} → Decided P → Decided (¬ P)
unless (inl p) = inr (λ n. n p)
unless (inr n) = inl n

pub never : {P : Type 0} → (¬ P) → Decided P
never n = inr n

-- ---- numbers and tests

pub is_true : (b : Bool) → Decided (b ≡ true)
is_true true = inl refl
is_true false = inr (λ e. let f : false ≡ true = e in cc)

pub at_most : (n m : ℕ) → Decided (n ≤ m)
at_most n m = yes_if (λ e. leads n m e) (λ le. back n m le) (is_true (nat_le n m))
  where
    leads : (n m : ℕ) → nat_le n m ≡ true → n ≤ m
    leads n m e = grind (arith, nat_tests)

    back : (n m : ℕ) → n ≤ m → nat_le n m ≡ true
    back n m le = grind (arith, nat_tests)

pub same_number : (n m : ℕ) → Decided (n ≡ m)
same_number n m = yes_if (λ e. eqb-true n m e) (λ e. eq-eqb n m e) (is_true (n == m))

pub same_text : (xs ys : List ℕ) → Decided (xs ≡ ys)
same_text [] [] = inl refl
same_text [] (y ∷ ys) = inr (λ e. let f : [] ≡ y ∷ ys = e in cc)
same_text (x ∷ xs) [] = inr (λ e. let f : x ∷ xs ≡ [] = e in cc)
same_text (x ∷ xs) (y ∷ ys) =
    yes_if (λ both. λ i. both.0 i ∷ both.1 i) (λ e. heads_and_tails x y xs ys e) (and_then (same_number x y) (same_text xs ys))
  where
    heads_and_tails : (x y : ℕ) (xs ys : List ℕ) → x ∷ xs ≡ y ∷ ys → (x ≡ y) × (xs ≡ ys)
    heads_and_tails x y xs ys e = (cc, cc)

-- ---- something among few

-- a number up to a bound
pub some_number : (P : ℕ → Type 0) (bound : ℕ) → ((n : ℕ) → Decided (P n)) → Decided ((n : ℕ) × (n ≤ bound) × P n)
some_number P zero decides = yes_if (λ p. (0, omega arith, p)) (λ some. at_zero some.0 some.1 some.2) (decides 0)
  where
    at_zero : (n : ℕ) → n ≤ 0 → P n → P 0
    at_zero zero le p = p
    at_zero (suc n) le p = absurd (omega (arith, le))
some_number P (suc bound) decides =
    yes_if (λ either. to either) (λ some. from some.0 some.1 some.2) (or_else (some_number P bound decides) (decides (suc bound)))
  where
    to : ((n : ℕ) × (n ≤ bound) × P n) ⊎ P (suc bound) → (n : ℕ) × (n ≤ suc bound) × P n
    to (inl some) = (some.0, omega (arith, some.1), some.2)
    to (inr p) = (suc bound, omega arith, p)

    from : (n : ℕ) → n ≤ suc bound → P n → ((n : ℕ) × (n ≤ bound) × P n) ⊎ P (suc bound)
    from n le p =
        elim (at_most n bound) [
          | inl small ↦ inl (n, small, p)
          | inr large ↦ inr (let same : n ≡ suc bound = omega (arith, le, large) in subst P same p)
        ]

-- a place where a text is cut
pub some_cut : (P : List ℕ → List ℕ → Type 0) → ((front back : List ℕ) → Decided (P front back)) → (text : List ℕ)
    → Decided ((front back : List ℕ) × (text ≡ front ++ back) × P front back)
some_cut P decides [] = yes_if (λ p. ([], [], refl, p)) (λ some. alone some.0 some.1 some.2 some.3) (decides [] [])
  where
    alone : (front back : List ℕ) → [] ≡ front ++ back → P front back → P [] []
    alone [] back e p = (let Q : List ℕ → Type 0 = λ l. P [] l in subst Q (sym e) p)
    alone (c ∷ front) back e p = absurd (let f : [] ≡ c ∷ (front ++ back) = e in cc)
some_cut P decides (c ∷ text) =
    yes_if (λ either. to either) (λ some. from some.0 some.1 some.2 some.3)
    (or_else (decides [] (c ∷ text)) (some_cut (λ front back. P (c ∷ front) back) (λ front back. decides (c ∷ front) back) text))
  where
    to : P [] (c ∷ text) ⊎ ((front back : List ℕ) × (text ≡ front ++ back) × P (c ∷ front) back) → (front back : List ℕ) × (c ∷ text ≡ front ++ back) × P front back
    to (inl p) = ([], c ∷ text, refl, p)
    to (inr some) = (c ∷ some.0, some.1, ap (λ l. c ∷ l) some.2, some.3)

    from : (front back : List ℕ) → c ∷ text ≡ front ++ back → P front back → P [] (c ∷ text) ⊎ ((front back : List ℕ) × (text ≡ front ++ back) × P (c ∷ front) back)
    from [] back e p = inl (let Q : List ℕ → Type 0 = λ l. P [] l in subst Q (sym e) p)
    from (d ∷ front) back e p =
        let f : c ∷ text ≡ d ∷ (front ++ back) = e in
        let head : d ≡ c = cc in
        let tail : text ≡ front ++ back = cc in
        inr (front, back, tail, (let Q : ℕ → Type 0 = λ h. P (h ∷ front) back in subst Q head p))
