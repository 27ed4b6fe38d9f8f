-- All octets of a text, one after another.
use Rattle.std.proofs.Common.{◌≡◌, ◌<◌, ◌≤◌, ◌+◌, ◌∙◌, ℕ, List, length, take, get_or, sym, ap}
use Rattle.std.specs.List.{fold}
use Rattle.std.proofs.lemmas.List.{take_all}
use Rattle.std.proofs.lemmas.List.Sums.{fold_more}

-- one more octet
pub one_more : {S : Type 0} (f : S → ℕ → S) (start : S) (text : List ℕ) (i octet d : ℕ) (old new : S) → i < length text → octet ≡ get_or text i d
    → old ≡ fold f start (take i text) → new ≡ f old octet → new ≡ fold f start (take (i + 1) text)
one_more f start text i octet d old new inside is so more =
    more ∙ ap (λ s. f s octet) so ∙ ap (λ o. f (fold f start (take i text)) o) is ∙ sym (fold_more f start text i d inside)

-- all of them
pub all_read : {S : Type 0} (f : S → ℕ → S) (start : S) (text : List ℕ) (i : ℕ) (now : S) → length text ≤ i
    → now ≡ fold f start (take i text) → now ≡ fold f start text
all_read f start text i now past so = so ∙ ap (fold f start) (take_all i text past)
