-- The first piece of a text that is cut at an octet.
use Rattle.std.proofs.Common.{◌≡◌, ◌==◌, ◌<◌, ◌+◌, ℕ, suc, Bool, true, false, List, [], ◌∷◌, length, take, drop, get_or, Some, None, refl, sym, ap, ◌∙◌, arith}
use Rattle.std.proofs.lemmas.List.{drop-drop}
use Rattle.std.proofs.lemmas.List.Splits.{slice_split-cons_no, slice_split_first}
use Rattle.std.proofs.lemmas.List.Sums.{position_or_len_is}
use Rattle.std.specs.List.{onto_first, position_or_len, slice_split}
use Rattle.memchr.specs.Find.{IsFirstByte, is_byte}

not_true : (b : Bool) → ¬ (b ≡ true) → b ≡ false
not_true true other = absurd (other refl)
not_true false other = refl

pub first_cut : (octet : ℕ) (text : List ℕ) (at : ℕ) → IsFirstByte (is_byte octet) text (Some at)
    → slice_split (λ other. other == octet) text ≡ take at text ∷ slice_split (λ other. other == octet) (drop 1 (drop at text))
first_cut octet text at first =
    let p : ℕ → Bool = λ other. other == octet in
    let is : position_or_len p text ≡ at =
    position_or_len_is p text at 0 (omega (arith, first.0.high)) (λ k less. not_true (p (get_or text k 0)) (first.0.before k (omega arith) less)) (λ inside. first.1) in
    slice_split_first p text 0 (omega (arith, is, first.0.high)) ∙ ap (λ n. take n text ∷ slice_split p (drop (n + 1) text)) is
    ∙ ap (λ rest. take at text ∷ slice_split p rest) (sym (drop-drop 1 at text))

whole : (octet : ℕ) (text : List ℕ) → ((k : ℕ) → k < length text → (get_or text k 0 == octet) ≡ false) → slice_split (λ other. other == octet) text ≡ text ∷ []
whole octet [] others = refl
whole octet (x ∷ text) others =
    slice_split-cons_no (λ other. other == octet) x text (others 0 (omega arith)) ∙ ap (onto_first x) (whole octet text (λ k inside. others (suc k) (omega (arith, inside))))

pub none_cut : (octet : ℕ) (text : List ℕ) → IsFirstByte (is_byte octet) text None → slice_split (λ other. other == octet) text ≡ text ∷ []
none_cut octet text none = whole octet text (λ k inside. not_true (get_or text k 0 == octet) (none k (omega arith) inside))
