-- A text is cut at the first place of an octet in one way.
use Rattle.std.proofs.Common.{◌≡◌, ◌≢◌, ℕ, List, [], ◌∷◌, ◌++◌, All, refl, subst}
use Rattle.std.proofs.lemmas.List.Elements.{All-head, All-tail}

-- the first place of an octet
pub first_once : (octet : ℕ) (before behind before' behind' : List ℕ) → All (λ x. x ≢ octet) before → All (λ x. x ≢ octet) before' → before ++ octet ∷ behind ≡ before' ++ octet ∷ behind' → behind ≡ behind'
first_once octet [] behind [] behind' all all' e = cc
first_once octet [] behind (y ∷ ys) behind' all all' e = absurd (All-head (λ x. x ≢ octet) y ys all' cc)
first_once octet (x ∷ xs) behind [] behind' all all' e = absurd (All-head (λ x. x ≢ octet) x xs all cc)
first_once octet (x ∷ xs) behind (y ∷ ys) behind' all all' e = first_once octet xs behind ys behind' (All-tail (λ x. x ≢ octet) x xs all) (All-tail (λ x. x ≢ octet) y ys all') cc

-- what is before it
pub before_once : (octet : ℕ) (before behind before' behind' : List ℕ) → All (λ x. x ≢ octet) before → All (λ x. x ≢ octet) before' → before ++ octet ∷ behind ≡ before' ++ octet ∷ behind' → before ≡ before'
before_once octet [] behind [] behind' all all' e = refl
before_once octet [] behind (y ∷ ys) behind' all all' e = absurd (All-head (λ x. x ≢ octet) y ys all' cc)
before_once octet (x ∷ xs) behind [] behind' all all' e = absurd (All-head (λ x. x ≢ octet) x xs all cc)
before_once octet (x ∷ xs) behind (y ∷ ys) behind' all all' e =
    let rest : xs ≡ ys = before_once octet xs behind ys behind' (All-tail (λ x. x ≢ octet) x xs all) (All-tail (λ x. x ≢ octet) y ys all') cc in
    let head : x ≡ y = cc in
    cc

-- a text without the octet isn't cut at one
pub not_there : (octet : ℕ) (text before behind : List ℕ) → All (λ x. x ≢ octet) text → text ≡ before ++ octet ∷ behind → ⊥
not_there octet text [] behind all e = All-head (λ x. x ≢ octet) octet behind (subst (λ (xs : List ℕ). All (λ x. x ≢ octet) xs) e all) refl
not_there octet text (y ∷ before) behind all e = not_there octet (before ++ octet ∷ behind) before behind (All-tail (λ x. x ≢ octet) y (before ++ octet ∷ behind) (subst (λ (xs : List ℕ). All (λ x. x ≢ octet) xs) e all)) refl
