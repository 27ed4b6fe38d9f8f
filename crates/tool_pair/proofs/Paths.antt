-- What is kept of a path makes it one.
use Rattle.std.proofs.Common.{◌≡◌, ◌∙◌, ◌+◌, ◌<◌, Bool, true, ◌&&◌, List, [], ◌∷◌, length, take, get_or, nat_le, refl, subst, ℕ}
use Rattle.std.specs.Prelude.{IsTrue}
use Rattle.std.specs.List.{list_all}
use Rattle.std.proofs.lemmas.Bool.{and_parts, and_from}
use Rattle.std.proofs.lemmas.List.Folds.{list_all_more}
use Rattle.ftp_path.specs.Kept.{IsKept, names_of}
use Rattle.ftp_path.specs.Path.{fits, is_component, is_name, name_limit, text_limit, text_of}
use Rattle.ftp_server_model.specs.Told.{is_path}

-- two tests that all pass
both_all : (one other : List ℕ → Bool) (names : List (List ℕ)) → list_all one names ≡ true → list_all other names ≡ true → list_all (λ name. one name && other name) names ≡ true
both_all one other [] first second = refl
both_all one other (name ∷ names) first second =
    let f = and_parts (one name) (list_all one names) first in
    let s = and_parts (other name) (list_all other names) second in
    and_from (one name && other name) (list_all (λ name. one name && other name) names) (and_from (one name) (other name) f.0 s.0) (both_all one other names f.1 s.1)

-- the names of a text that is kept are a path
kept_path : (text : List ℕ) → IsKept text → IsTrue (is_path (names_of text))
unfolding fits
kept_path text kept =
    let within = and_parts (list_all (λ name. nat_le (length name) name_limit) (names_of text)) (nat_le (length (text_of (names_of text))) text_limit) kept.within in
    and_from (list_all is_name (names_of text)) (fits (names_of text)) (both_all is_component (λ name. nat_le (length name) name_limit) (names_of text) kept.joins.components within.0) kept.within

-- so is each path
pub kept_is_path : (text : List ℕ) (path : List (List ℕ)) → IsKept text → names_of text ≡ path → IsTrue (is_path path)
kept_is_path text path kept is = subst (λ p. IsTrue (is_path p)) is (kept_path text kept)

-- one more passes a test
pub one_more_passes : {X : Type 0} (p : X → Bool) (xs : List X) (i : ℕ) (d x : X) → i < length xs → x ≡ get_or xs i d → list_all p (take i xs) ≡ true → p x ≡ true
    → list_all p (take (i + 1) xs) ≡ true
one_more_passes p xs i d x inside is so here =
    list_all_more p xs i d inside ∙ and_from (list_all p (take i xs)) (p (get_or xs i d)) so (subst (λ y. p y ≡ true) is here)
