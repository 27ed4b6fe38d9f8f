-- A row of pieces joined by an octet, with one more.
use Rattle.std.proofs.Common.{◌≡◌, ℕ, zero, suc, ◌+◌, ◌<◌, true, cond, nat_lt, List, [], ◌∷◌, ◌++◌, length, map, take, get_or, refl, sym, ap, ◌∙◌, arith, append_assoc, tests, rules, codes}
use Rattle.std.specs.List.{join_with_byte}
use Rattle.std.proofs.lemmas.List.{take_more}
use Rattle.ftp_endpoint.specs.Written.{hex}

-- what stands before a piece: the separator, but not before the first
abbrev before : ℕ → List (List ℕ) → List ℕ
before c [] = []
before c (x ∷ xs) = c ∷ []

join-push : (c : ℕ) (xs : List (List ℕ)) (y : List ℕ) → join_with_byte c (xs ++ y ∷ []) ≡ join_with_byte c xs ++ (before c xs ++ y)
join-push c [] y = refl
join-push c (x ∷ []) y = refl
join-push c (x ∷ z ∷ xs) y =
    ap (λ t. x ++ (c ∷ t)) (join-push c (z ∷ xs) y) ∙ sym (append_assoc x (c ∷ join_with_byte c (z ∷ xs)) (c ∷ y))

map-push : (xs : List ℕ) (x : ℕ) → map hex (xs ++ x ∷ []) ≡ map hex xs ++ hex x ∷ []
map-push [] x = refl
map-push (y ∷ xs) x = ap (λ t. hex y ∷ t) (map-push xs x)

before-take : (xs : List ℕ) (i : ℕ) → i < length xs → before 58 (map hex (take i xs)) ≡ cond (nat_lt 0 i) (codes ":") []
before-take [] i lt = absurd (omega arith)
before-take (x ∷ xs) zero lt = refl
before-take (x ∷ xs) (suc i) lt = ap (λ b. cond b (codes ":") []) (let p : true ≡ nat_lt 0 (suc i) = search (rules, tests) in p)

pub groups_more : (xs : List ℕ) (i : ℕ) → i < length xs → join_with_byte 58 (map hex (take (i + 1) xs)) ≡ join_with_byte 58 (map hex (take i xs)) ++ (cond (nat_lt 0 i) (codes ":") [] ++ hex (get_or xs i 0))
groups_more xs i lt =
    ap (λ t. join_with_byte 58 (map hex t)) (take_more xs i 0 lt)
    ∙ (ap (λ t. join_with_byte 58 t) (map-push (take i xs) (get_or xs i 0))
    ∙ (join-push 58 (map hex (take i xs)) (hex (get_or xs i 0))
    ∙ ap (λ t. join_with_byte 58 (map hex (take i xs)) ++ (t ++ hex (get_or xs i 0))) (before-take xs i lt)))
