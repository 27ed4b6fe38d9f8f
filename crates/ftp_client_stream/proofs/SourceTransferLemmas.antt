-- Octets that are at hand, those that were taken of them, and those that went.
use Rattle.std.proofs.Common.{◌≡◌, ◌∙◌, ◌+◌, ℕ, zero, suc, List, [], ◌∷◌, ◌++◌, take, drop, refl, sym, ap, append_assoc}
use Rattle.std.proofs.lemmas.List.{drop-drop, take-append-drop}

-- behind the last of so many none is left
pub none_left : (n : ℕ) (l : List ℕ) → drop n (take n l) ≡ []
none_left zero l = refl
none_left (suc n) [] = refl
none_left (suc n) (octet ∷ l) = none_left n l

-- none is left where all that was made went
pub all_gone : (sent made : ℕ) (l : List ℕ) → sent ≡ made → drop sent (take made l) ≡ []
all_gone sent made l is = ap (λ n. drop n (take made l)) is ∙ none_left made l

-- of what was to go, so much went, and the rest is still to go
pub goes : (count sent made : ℕ) (l rest : List ℕ)
    → drop sent (take made l) ++ rest ≡ take count (drop sent (take made l)) ++ (drop (sent + count) (take made l) ++ rest)
goes count sent made l rest =
    ap (λ u. u ++ rest) (sym (take-append-drop count (drop sent (take made l))))
    ∙ append_assoc (take count (drop sent (take made l))) (drop count (drop sent (take made l))) rest
    ∙ ap (λ u. take count (drop sent (take made l)) ++ (u ++ rest)) (drop-drop count sent (take made l))

-- the wire of octets at hand was made, of which so many were taken
pub encodes : (old new : List ℕ → List ℕ) (sent made : ℕ) (wire hand rest out : List ℕ) (at taken : ℕ) (more : List ℕ)
    → sent ≡ made → rest ≡ drop at hand → old (rest ++ more) ≡ out ++ new (drop taken rest ++ more)
    → out ++ new (drop (at + taken) hand ++ more) ≡ drop sent (take made wire) ++ old (drop at hand ++ more)
encodes old new sent made wire hand rest out at taken more gone is puts =
    ap (λ l. out ++ new (l ++ more)) (sym (ap (drop taken) is ∙ drop-drop taken at hand))
    ∙ sym puts
    ∙ ap (λ l. old (l ++ more)) is
    ∙ ap (λ u. u ++ old (drop at hand ++ more)) (sym (all_gone sent made wire gone))

-- octets were read where none were at hand
pub reads : (give : List ℕ → List ℕ) (unsent hand drew more : List ℕ) → hand ≡ []
    → unsent ++ give (drew ++ more) ≡ unsent ++ give (hand ++ (drew ++ more))
reads give unsent hand drew more none = ap (λ h. unsent ++ give (h ++ (drew ++ more))) (sym none)

-- nothing is to go where all that was made went, none is at hand, and nothing is to be made
pub over : (give : List ℕ → List ℕ) (sent made at end : ℕ) (wire piece : List ℕ) → sent ≡ made → at ≡ end → give [] ≡ []
    → drop sent (take made wire) ++ give (drop at (take end piece) ++ []) ≡ []
over give sent made at end wire piece gone none done =
    ap (λ u. u ++ give (drop at (take end piece) ++ [])) (all_gone sent made wire gone)
    ∙ ap (λ h. give (h ++ [])) (all_gone at end piece none)
    ∙ done
