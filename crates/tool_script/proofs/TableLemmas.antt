-- Tables, held against definitions at each of 256 octets, by computing.
use Rattle.std.proofs.Common.{◌≡◌, ◌==◌, ◌&&◌, ◌<◌, ℕ, zero, suc, Bool, true, false, List, [], ◌∷◌, inl, inr, refl, ap, ◌∙◌, arith}
use Rattle.std.proofs.lemmas.Bool.{cases_eq, eqb-true}

-- two rows of numbers are one
unfoldable pub are_same : List ℕ → List ℕ → Bool
are_same [] [] = true
are_same [] (y ∷ ys) = false
are_same (x ∷ xs) [] = false
are_same (x ∷ xs) (y ∷ ys) = (x == y) && are_same xs ys

pub both_of : (a b : Bool) → (a && b) ≡ true → (a ≡ true) × (b ≡ true)
both_of true b is = (refl, is)
both_of false b is = absurd (cc)

same : (xs ys : List ℕ) → are_same xs ys ≡ true → xs ≡ ys
unfolding are_same
same [] [] is = refl
same [] (y ∷ ys) is = absurd (cc)
same (x ∷ xs) [] is = absurd (cc)
same (x ∷ xs) (y ∷ ys) is =
    let both = both_of (x == y) (are_same xs ys) is in
    ap (λ z. z ∷ xs) (eqb-true x y both.0) ∙ ap (λ zs. y ∷ zs) (same xs ys both.1)

-- two readings of an octet are one below a number
unfoldable pub agree_below : (ℕ → List ℕ) → (ℕ → List ℕ) → ℕ → Bool
agree_below f g zero = true
agree_below f g (suc n) = are_same (f n) (g n) && agree_below f g n

pub agree_at : (f g : ℕ → List ℕ) (n : ℕ) → agree_below f g n ≡ true → (octet : ℕ) → octet < n → f octet ≡ g octet
unfolding agree_below
agree_at f g zero is octet less = absurd (omega (arith, less))
agree_at f g (suc n) is octet less =
    let both = both_of (are_same (f n) (g n)) (agree_below f g n) is in
    elim (cases_eq octet n) [ inl here ↦ rw here (same (f n) (g n) both.0) | inr other ↦ agree_at f g n both.1 octet (omega (arith, less, other)) ]
