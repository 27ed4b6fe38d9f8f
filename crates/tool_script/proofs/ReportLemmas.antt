-- What is written where nothing failed.
use Rattle.std.proofs.Common.{◌≡◌, ◌++◌, ◌+◌, ◌<◌, ℕ, false, List, cond, length, take, get_or, flat_map, Result, Ok, Err, OnOk, sym, ap, ◌∙◌, append_assoc}
use Rattle.std.specs.Result.{is_ok, is_err}
use Rattle.std.proofs.lemmas.List.{flat_map_more, take_more}

pub on_ok : {T E : Type 0} (r : Result T E) (P Q : Type 0) → (P → Q) → OnOk r P → OnOk r Q
on_ok (Ok x) P Q step p = step p
on_ok (Err e) P Q step p = tt

-- what holds where nothing failed, and nothing did
pub given : {T E : Type 0} (r : Result T E) (P : Type 0) → is_err r ≡ false → OnOk r P → P
given (Ok x) P e p = p
given (Err x) P e p = absurd (cc)

three : (old word text end front both new : List ℕ) → front ≡ old ++ word → both ≡ front ++ text → new ≡ both ++ end → new ≡ old ++ (word ++ (text ++ end))
three old word text end front both new e f g =
    g ∙ ap (λ l. l ++ end) (f ∙ ap (λ l. l ++ text) e) ∙ append_assoc (old ++ word) text end ∙ append_assoc old word (text ++ end)

-- a word, what stands behind it, and an end
pub line_put : {T E : Type 0} (r : Result T E) (old word text end front both new : List ℕ) → front ≡ old ++ word → both ≡ front ++ text
    → new ≡ cond (is_ok r) (both ++ end) both → OnOk r (new ≡ old ++ (word ++ (text ++ end)))
line_put (Ok x) old word text end front both new e f g = three old word text end front both new e f g
line_put (Err fault) old word text end front both new e f g = tt

-- a word, and what stands behind it
pub both_put : {T E : Type 0} (r : Result T E) (old word text said front new : List ℕ) → front ≡ old ++ word → said ≡ text
    → new ≡ cond (is_ok r) (front ++ said) front → OnOk r (new ≡ old ++ (word ++ text))
both_put (Ok x) old word text said front new e s g =
    g ∙ ap (λ l. l ++ said) e ∙ append_assoc old word said ∙ ap (λ l. old ++ (word ++ l)) s
both_put (Err fault) old word text said front new e s g = tt

-- one more of a list is written
pub one_more : {X : Type 0} (f : X → List ℕ) (xs : List X) (i : ℕ) (d x : X) (front old new : List ℕ) → i < length xs → x ≡ get_or xs i d
    → old ≡ front ++ flat_map f (take i xs) → new ≡ old ++ f x
    → new ≡ front ++ flat_map f (take (i + 1) xs)
one_more f xs i d x front old new inside is so more =
    more ∙ ap (λ y. old ++ f y) is ∙ ap (λ l. l ++ f (get_or xs i d)) so ∙ flat_map_more f front (take i xs) (get_or xs i d)
    ∙ ap (λ l. front ++ flat_map f l) (sym (take_more xs i d inside))
