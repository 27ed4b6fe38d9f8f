-- What is written where nothing failed.
use Rattle.std.proofs.Common.{◌≡◌, ◌++◌, ◌+◌, ◌<◌, ◌≤◌, ◌∙◌, ℕ, Bool, true, false, List, length, take, get_or, flat_map, count_by, sym, ap, arith}
use Rattle.std.proofs.lemmas.List.{flat_map_more, take_more}
use Rattle.std.proofs.lemmas.List.Sums.{count_by_more_no, count_by_more_yes}

-- one more of a list is written
pub one_written : {X Y : Type 0} (f : X → List Y) (xs : List X) (i : ℕ) (d x : X) (front old new : List Y) → i < length xs → x ≡ get_or xs i d
    → old ≡ front ++ flat_map f (take i xs) → new ≡ old ++ f x
    → new ≡ front ++ flat_map f (take (i + 1) xs)
one_written f xs i d x front old new inside is so more =
    more ∙ ap (λ y. old ++ f y) is ∙ ap (λ l. l ++ f (get_or xs i d)) so ∙ flat_map_more f front (take i xs) (get_or xs i d)
    ∙ ap (λ l. front ++ flat_map f l) (sym (take_more xs i d inside))

-- one more of a list counts
pub one_counted : {X : Type 0} (p : X → Bool) (xs : List X) (i : ℕ) (x : X) (old new : ℕ) → i < length xs → x ≡ get_or xs i x → p x ≡ true
    → (old ≤ i) × (old ≡ count_by p (take i xs)) → new ≡ old + 1
    → (new ≤ i + 1) × (new ≡ count_by p (take (i + 1) xs))
one_counted p xs i x old new inside is counts so more =
    let below : old ≤ i = so.0 in
    (omega arith, more ∙ ap (λ n. n + 1) so.1 ∙ sym (count_by_more_yes p xs i x inside (ap p (sym is) ∙ counts)))

-- one more of a list does not count
pub none_counted : {X : Type 0} (p : X → Bool) (xs : List X) (i : ℕ) (x : X) (old new : ℕ) → i < length xs → x ≡ get_or xs i x → p x ≡ false
    → (old ≤ i) × (old ≡ count_by p (take i xs)) → new ≡ old
    → (new ≤ i + 1) × (new ≡ count_by p (take (i + 1) xs))
none_counted p xs i x old new inside is skips so same =
    let below : old ≤ i = so.0 in
    (omega arith, same ∙ so.1 ∙ sym (count_by_more_no p xs i x inside (ap p (sym is) ∙ skips)))
