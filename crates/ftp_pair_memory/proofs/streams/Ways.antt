-- What a way tells beside its octets.
use Rattle.std.proofs.Common.{◌≡◌, ℕ, List, [], ◌∷◌, ◌++◌, sym, ap, ◌∙◌, append_assoc, take, drop, take-append-drop}

-- the front of a way was read, and what was told behind it is told still
pub front_read : (octets front rest : List ℕ) (count name : ℕ) → front ≡ take count octets → rest ≡ drop count octets
    → octets ++ (name ∷ []) ≡ front ++ (rest ++ (name ∷ []))
front_read octets front rest count name first behind =
    ap (λ l. l ++ name ∷ []) (sym (take-append-drop count octets) ∙ ap (λ l. l ++ drop count octets) (sym first) ∙ ap (λ l. front ++ l) (sym behind))
    ∙ append_assoc front rest (name ∷ [])

-- the front of what came was read, and what was told after it is told still
pub front_came : (octets front rest last : List ℕ) (count : ℕ) → front ≡ take count octets → rest ≡ drop count octets
    → octets ++ last ≡ front ++ (rest ++ last)
front_came octets front rest last count first after =
    ap (λ l. l ++ last) (sym (take-append-drop count octets) ∙ ap (λ l. l ++ drop count octets) (sym first) ∙ ap (λ l. front ++ l) (sym after))
    ∙ append_assoc front rest last
