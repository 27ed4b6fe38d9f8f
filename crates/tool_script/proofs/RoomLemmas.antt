-- A room that is filled from its front.
use Rattle.std.proofs.Common.{◌≡◌, ◌≤◌, ◌+◌, ◌++◌, ◌∷◌, [], ℕ, List, length, take, set, get_or, refl, sym, ap, ◌∙◌, arith}
use Rattle.std.proofs.Math.Seq.{take-append-add}
use Rattle.std.proofs.lemmas.Grind.{take-set_at}
use Rattle.std.proofs.lemmas.List.{length-set, length-take-le, take-take}

four_behind : (front : List ℕ) (a b c d : ℕ) → (((front ++ a ∷ []) ++ b ∷ []) ++ c ∷ []) ++ d ∷ [] ≡ front ++ a ∷ b ∷ c ∷ d ∷ []
four_behind [] a b c d = refl
four_behind (octet ∷ front) a b c d = ap (λ rest. octet ∷ rest) (four_behind front a b c d)

-- what stands before a place, and so many of four octets that are written there
four_set : (room : List ℕ) (at count a b c d : ℕ) → at + 4 ≤ length room → count ≤ 4
    → take (at + count) (set (set (set (set room at a) (at + 1) b) (at + 2) c) (at + 3) d) ≡ take at room ++ take count (a ∷ b ∷ c ∷ d ∷ [])
four_set room at count a b c d long few =
    let one = set room at a in
    let two = set one (at + 1) b in
    let three = set two (at + 2) c in
    let four = set three (at + 3) d in
    let long-one : length one ≡ length room = length-set room at a in
    let long-two : length two ≡ length room = length-set one (at + 1) b ∙ long-one in
    let long-three : length three ≡ length room = length-set two (at + 2) c ∙ long-two in
    let whole : take (at + 4) four ≡ take at room ++ a ∷ b ∷ c ∷ d ∷ [] =
    take-set_at three (at + 3) (at + 4) d (omega arith) (omega (arith, long, long-three))
    ∙ ap (λ l. l ++ d ∷ []) (take-set_at two (at + 2) (at + 3) c (omega arith) (omega (arith, long, long-two)))
    ∙ ap (λ l. (l ++ c ∷ []) ++ d ∷ []) (take-set_at one (at + 1) (at + 2) b (omega arith) (omega (arith, long, long-one)))
    ∙ ap (λ l. ((l ++ b ∷ []) ++ c ∷ []) ++ d ∷ []) (take-set_at room at (at + 1) a (omega arith) (omega (arith, long)))
    ∙ four_behind (take at room) a b c d in
    sym (take-take (at + count) (at + 4) four (omega (arith, few))) ∙ ap (take (at + count)) whole
    ∙ ap (λ n. take (n + count) (take at room ++ a ∷ b ∷ c ∷ d ∷ [])) (sym (length-take-le at room (omega (arith, long))))
    ∙ take-append-add (take at room) (a ∷ b ∷ c ∷ d ∷ []) count

are_four : (xs : List ℕ) → length xs ≡ 4 → get_or xs 0 0 ∷ get_or xs 1 0 ∷ get_or xs 2 0 ∷ get_or xs 3 0 ∷ [] ≡ xs
are_four [] long = absurd (omega (arith, long))
are_four (a ∷ []) long = absurd (omega (arith, long))
are_four (a ∷ b ∷ []) long = absurd (omega (arith, long))
are_four (a ∷ b ∷ c ∷ []) long = absurd (omega (arith, long))
are_four (a ∷ b ∷ c ∷ d ∷ []) long = refl
are_four (a ∷ b ∷ c ∷ d ∷ e ∷ xs) long = absurd (omega (arith, long))

-- the same of a text that so many of a row of four are
pub row_set : (room xs text : List ℕ) (at count : ℕ) → at + 4 ≤ length room → count ≤ 4 → length xs ≡ 4 → take count xs ≡ text
    → take (at + count) (set (set (set (set room at (get_or xs 0 0)) (at + 1) (get_or xs 1 0)) (at + 2) (get_or xs 2 0)) (at + 3) (get_or xs 3 0)) ≡ take at room ++ text
row_set room xs text at count long few four is =
    four_set room at count (get_or xs 0 0) (get_or xs 1 0) (get_or xs 2 0) (get_or xs 3 0) long few
    ∙ ap (λ l. take at room ++ take count l) (are_four xs four) ∙ ap (λ l. take at room ++ l) is
