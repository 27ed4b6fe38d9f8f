-- What is written where nothing failed.
use Rattle.std.proofs.Common.{◌≡◌, ◌++◌, ◌+◌, ◌<◌, ◌∙◌, ℕ, List, length, take, get_or, flat_map, sym, ap}
use Rattle.std.proofs.lemmas.List.{flat_map_more, take_more}

-- one more of a list is written
pub one_written : {X Y : Type 0} (f : X → List Y) (xs : List X) (i : ℕ) (d x : X) (front old new : List Y) → i < length xs → x ≡ get_or xs i d
    → old ≡ front ++ flat_map f (take i xs) → new ≡ old ++ f x
    → new ≡ front ++ flat_map f (take (i + 1) xs)
one_written f xs i d x front old new inside is so more =
    more ∙ ap (λ y. old ++ f y) is ∙ ap (λ l. l ++ f (get_or xs i d)) so ∙ flat_map_more f front (take i xs) (get_or xs i d)
    ∙ ap (λ l. front ++ flat_map f l) (sym (take_more xs i d inside))
