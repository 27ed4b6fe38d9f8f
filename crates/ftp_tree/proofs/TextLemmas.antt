-- Names joined to a text: what is known of one that is kept, and what it leaves room for.
use Rattle.std.proofs.Common.{ℕ, zero, suc, ◌+◌, ◌-◌, ◌≤◌, ◌≡◌, Bool, true, ◌&&◌, nat_le, List, [], ◌∷◌, ◌++◌, length, drop, refl, sym, ap, ◌∙◌, arith}
use Rattle.std.specs.List.{list_all}
use Rattle.std.proofs.lemmas.Bool.{and_parts, le-leb}
use Rattle.std.proofs.lemmas.Bool.Decides.{nat_tests}
use Rattle.std.proofs.lemmas.List.{length-append}
use Rattle.std.proofs.lemmas.List.Folds.{list_all-append}
use Rattle.ftp_path.specs.Kept.{IsKept, names_of}
use Rattle.ftp_path.specs.Path.{fits, joined, text_of, Names, text_limit}
use Rattle.ftp_path.proofs.PathLemmas.{joined-append}
use Rattle.ftp_tree.specs.Text.{IsPlace, is_short, is_within_room}

-- names that a path keeps joined are a place
pub kept-place : (text : List ℕ) → IsKept text → IsPlace text
unfolding fits
kept-place text kept =
    record {
      joins = kept.joins;
      short = (and_parts (list_all is_short (names_of text)) (nat_le (length (text_of (names_of text))) text_limit) kept.within).0;
    }

-- what is so of all names is so of those from one on
pub all-drop : (p : List ℕ → Bool) (n : ℕ) (names : List (List ℕ)) → list_all p names ≡ true → list_all p (drop n names) ≡ true
all-drop p zero names all = all
all-drop p (suc n) [] all = refl
all-drop p (suc n) (name ∷ names) all = all-drop p n names (and_parts (p name) (list_all p names) all).1

-- the root's text is longer than its names joined, and still within the limit
text-le : (names : Names) → nat_le (length (text_of names)) text_limit ≡ nat_le (length (joined names)) text_limit
unfolding text_of
text-le [] = le-leb 1 text_limit (omega arith) ∙ sym (le-leb 0 text_limit (omega arith))
text-le (name ∷ names) = refl

-- names behind a place fit where they fit into the room that its text leaves
pub fits-room : (to : List ℕ) (q : Names) → IsPlace to → length to ≤ text_limit → fits (names_of to ++ q) ≡ is_within_room (text_limit - length to) q
unfolding fits
fits-room to q place short =
    let names = names_of to in
    let whole : length (joined (names ++ q)) ≡ length to + length (joined q) = ap length (joined-append names q) ∙ length-append (joined names) (joined q) ∙ ap (λ t. length t + length (joined q)) place.joins.whole in
    ap (λ b. b && nat_le (length (text_of (names ++ q))) text_limit) (list_all-append is_short names q ∙ ap (λ b. b && list_all is_short q) place.short)
    ∙ ap (λ b. list_all is_short q && b) (text-le (names ++ q) ∙ ap (λ k. nat_le k text_limit) whole ∙ count (length to) (length (joined q)) short)
  where
    count : (to rest : ℕ) → to ≤ text_limit → nat_le (to + rest) text_limit ≡ nat_le rest (text_limit - to)
    count to rest short = grind (arith, nat_tests)
