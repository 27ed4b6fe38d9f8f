-- Octets that stand for themselves, looked at as the lanes of a vector.
use Rattle.std.proofs.Common.{◌≡◌, ◌==◌, ◌&&◌, ◌+◌, ◌*◌, ◌%◌, ◌^◌, ℕ, suc, zero, Bool, true, false, cond, ltb, leb, List, [], ◌∷◌, ◌++◌, inl, inr, length, take, drop, map, replicate, w8, refl, sym, ap, ◌∙◌, arith}
use Rattle.std.proofs.lemmas.Bool.{cases_lt, le-leb, le-ltb, lt-leb, lt-ltb, ne_eqb}
use Rattle.std.proofs.lemmas.List.{length-map, take-append-drop}
use Rattle.std.proofs.lemmas.Simd.{bitmask_splat, mask_l-mod, tops_compared}
use Rattle.std.specs.List.{list_all}
use Rattle.std.specs.Prelude.{not}
use lib.Lanes.{mask_l, top, zip2}
use Rattle.tool_script.specs.Field.{is_plain}

-- what holds of two rows of tests together
both_row : (a b c d : Bool) → ((a && c) && (b && d)) ≡ ((a && b) && (c && d))
both_row true true c d = refl
both_row true false true d = refl
both_row true false false d = refl
both_row false b c d = refl

all_both : (p q : ℕ → Bool) (xs : List ℕ) → (list_all p xs && list_all q xs) ≡ list_all (λ x. p x && q x) xs
all_both p q [] = refl
all_both p q (x ∷ xs) = both_row (p x) (q x) (list_all p xs) (list_all q xs) ∙ ap (λ b. (p x && q x) && b) (all_both p q xs)

pub all_same : (p q : ℕ → Bool) → ((x : ℕ) → p x ≡ q x) → (xs : List ℕ) → list_all p xs ≡ list_all q xs
all_same p q same xs = λ i. list_all (λ x. same x i) xs

-- no lane passes
doubled : (b : Bool) (n : ℕ) (rest : Bool) → (n == 0) ≡ rest → (cond b 1 0 + 2 * n == 0) ≡ (not b && rest)
doubled true n rest is = ne_eqb (1 + 2 * n) 0 (λ same. absurd (omega (arith, same)))
doubled false zero rest is = is
doubled false (suc n) rest is = ne_eqb (0 + 2 * suc n) 0 (λ same. absurd (omega (arith, same))) ∙ sym (ne_eqb (suc n) 0 (λ same. absurd (omega (arith, same)))) ∙ is

pub none_set : (p : ℕ → Bool) (xs : List ℕ) → (mask_l (map p xs) == 0) ≡ list_all (λ x. not (p x)) xs
none_set p [] = refl
none_set p (x ∷ xs) = doubled (p x) (mask_l (map p xs)) (list_all (λ x. not (p x)) xs) (none_set p xs)

-- a test of each lane beside one octet
splat_left : (t : ℕ → ℕ → Bool) (y : ℕ) (xs : List ℕ) → zip2 t (replicate (length xs) y) xs ≡ map (t y) xs
splat_left t y [] = refl
splat_left t y (x ∷ xs) = ap (λ rest. t y x ∷ rest) (splat_left t y xs)

pub right_lanes : (t : ℕ → ℕ → Bool) (y : ℕ) (v : List ℕ) → length v ≡ 32
    → (mask_l (map (top 7) (zip2 (λ a b. cond (t a b) 255 0) v (replicate 32 y))) % 2 ^ 64 == 0) ≡ list_all (λ x. not (t x y)) v
right_lanes t y v long = ap (λ m. m == 0) (bitmask_splat w8 t v 32 y long (omega arith)) ∙ none_set (λ x. t x y) v

pub left_lanes : (t : ℕ → ℕ → Bool) (y : ℕ) (v : List ℕ) → length v ≡ 32
    → (mask_l (map (top 7) (zip2 (λ a b. cond (t a b) 255 0) (replicate 32 y) v)) % 2 ^ 64 == 0) ≡ list_all (λ x. not (t y x)) v
left_lanes t y v long =
    ap (λ ms. mask_l ms % 2 ^ 64 == 0) (tops_compared w8 t (replicate 32 y) v ∙ ap (λ n. zip2 t (replicate n y) v) (sym long) ∙ splat_left t y v)
    ∙ ap (λ m. m == 0) (mask_l-mod (map (t y) v) 64 (omega (arith, length-map v (t y), long))) ∙ none_set (t y) v

least : (x y : ℕ) → not (ltb x y) ≡ leb y x
least x y = elim (cases_lt x y) [ inl less ↦ ap not (lt-ltb x y less) ∙ sym (lt-leb y x less) | inr le ↦ ap not (le-ltb x y le) ∙ sym (le-leb y x le) ]

plain_one : (x : ℕ) → (not (ltb x 33) && not (ltb 126 x) && not (x == 92)) ≡ is_plain x
plain_one x = ap (λ b. b && not (ltb 126 x) && not (x == 92)) (least x 33) ∙ ap (λ b. leb 33 x && b && not (x == 92)) (least 126 x)

-- three tests of all lanes are one of each
pub plain_lanes : (v : List ℕ) (low high slash : Bool) → low ≡ list_all (λ x. not (ltb x 33)) v → high ≡ list_all (λ x. not (ltb 126 x)) v → slash ≡ list_all (λ x. not (x == 92)) v
    → (low && high && slash) ≡ list_all is_plain v
plain_lanes v low high slash a b c =
    let some = list_all (λ x. not (ltb x 33)) v in
    ap (λ l. l && high && slash) a ∙ ap (λ h. some && h && slash) b ∙ ap (λ s. some && list_all (λ x. not (ltb 126 x)) v && s) c
    ∙ ap (λ l. l && list_all (λ x. not (x == 92)) v) (all_both (λ x. not (ltb x 33)) (λ x. not (ltb 126 x)) v)
    ∙ all_both (λ x. not (ltb x 33) && not (ltb 126 x)) (λ x. not (x == 92)) v
    ∙ all_same (λ x. not (ltb x 33) && not (ltb 126 x) && not (x == 92)) is_plain plain_one v

-- what holds of a row and of another behind it
pub all_append : (xs ys : List ℕ) → list_all is_plain (xs ++ ys) ≡ (list_all is_plain xs && list_all is_plain ys)
all_append [] ys = refl
all_append (x ∷ xs) ys = ap (λ b. is_plain x && b) (all_append xs ys) ∙ joined (is_plain x) (list_all is_plain xs) (list_all is_plain ys)
  where
    joined : (a b c : Bool) → (a && (b && c)) ≡ ((a && b) && c)
    joined true b c = refl
    joined false b c = refl

-- the first octets all stand for themselves, so the others decide; or they do not all
pub all_behind : (rest front behind : List ℕ) → front ≡ take 32 rest → behind ≡ drop 32 rest → list_all is_plain front ≡ true → list_all is_plain rest ≡ list_all is_plain behind
all_behind rest front behind f b all =
    ap (list_all is_plain) (sym (take-append-drop 32 rest)) ∙ all_append (take 32 rest) (drop 32 rest)
    ∙ ap (λ a. a && list_all is_plain (drop 32 rest)) (ap (list_all is_plain) (sym f) ∙ all) ∙ ap (list_all is_plain) (sym b)

pub none_behind : (rest front : List ℕ) → front ≡ take 32 rest → list_all is_plain front ≡ false → list_all is_plain rest ≡ false
none_behind rest front f all =
    ap (list_all is_plain) (sym (take-append-drop 32 rest)) ∙ all_append (take 32 rest) (drop 32 rest)
    ∙ ap (λ a. a && list_all is_plain (drop 32 rest)) (ap (list_all is_plain) (sym f) ∙ all)
