-- The first of a list, and the others.
use Rattle.std.proofs.Common.{◌≡◌, ◌<◌, ◌∙◌, [], ◌∷◌, List, length, ap, sym, arith}
use Rattle.std.specs.Prelude.{remove, slice_index_or}

-- A list is its first item before what is left once that is removed.
pub first_removed : {E : Type 0} (xs : List E) (first : E) (rest : List E) → 0 < length xs → first ≡ slice_index_or xs 0 first → rest ≡ remove xs 0
    → xs ≡ first ∷ rest
first_removed [] first rest some is left = absurd (omega (arith, some))
first_removed (x ∷ xs) first rest some is left = ap (λ y. y ∷ xs) (sym is) ∙ ap (λ ys. first ∷ ys) (sym left)
