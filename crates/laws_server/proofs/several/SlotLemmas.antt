-- Lists of slots, of which one is another.
use Rattle.std.proofs.Common.{◌≡◌, ◌≢◌, ℕ, zero, suc, List, [], ◌∷◌, Option, Some, None, refl, ap, slice_get, slice_set}
use Rattle.std.proofs.lemmas.Option.{none-some}

-- who sits there now
pub get-set_same : {X : Type 0} → (xs : List X) (i : ℕ) (x y : X) → slice_get xs i ≡ Some x → slice_get (slice_set xs i y) i ≡ Some y
get-set_same [] i x y at = absurd (none-some x at)
get-set_same (x ∷ xs) zero z y at = refl
get-set_same (x ∷ xs) (suc i) z y at = get-set_same xs i z y at

-- the others sit where they sat
pub get-set_other : {X : Type 0} → (xs : List X) (i j : ℕ) (y : X) → i ≢ j → slice_get (slice_set xs i y) j ≡ slice_get xs j
get-set_other [] i j y other = refl
get-set_other (x ∷ xs) zero zero y other = absurd (other refl)
get-set_other (x ∷ xs) zero (suc j) y other = refl
get-set_other (x ∷ xs) (suc i) zero y other = refl
get-set_other (x ∷ xs) (suc i) (suc j) y other = get-set_other xs i j y (λ same. other (ap suc same))
