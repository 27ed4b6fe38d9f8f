-- Eight escapes by digits, looked at as columns of a vector.
use Rattle.std.proofs.Common.{◌≡◌, ◌==◌, ◌&&◌, ◌+◌, ◌*◌, ◌-◌, ◌%◌, ◌^◌, ◌<◌, ℕ, Bool, true, false, cond, ltb, List, [], ◌∷◌, ◌++◌, length, map, flat_map, get_or, replicate, Some, None, option_map, w8, refl, sym, ap, ◌∙◌, arith}
use Rattle.std.proofs.lemmas.Bool.{ltb-true}
use Rattle.std.proofs.lemmas.Simd.{bitmask_splat, pick_l_left, pick_l_whole, tops_compared}
use Rattle.std.specs.List.{list_all}
use Rattle.std.specs.Prelude.{if◌then◌else◌, nat_le, not}
use lib.Dec.{T}
use mir.Val.{Fits}
use lib.Lanes.{Each1, all_below, mask_l, pick_l, sel_l, top, zip2}
use Rattle.ftp_facts.specs.Value.{and_then}
use Rattle.tool_script.specs.Field.{Between, SayFront, digit_or_255, digit_value, said_before, said_from, with_front}
use Rattle.tool_script.proofs.FieldLemmas.{alone, by_digits, digits, led, rows_said, slash}
use Rattle.tool_script.proofs.LaneLemmas.{all_same, none_set}
use Rattle.tool_script.proofs.TableLemmas.{agree_at, agree_below, both_of}

-- no lane of eight passes a test beside an octet
pub eight_lanes : (t : ℕ → ℕ → Bool) (y : ℕ) (v : List ℕ) → length v ≡ 8
    → (mask_l (map (top 7) (zip2 (λ a b. cond (t a b) 255 0) v (replicate 8 y))) % 2 ^ 64 == 0) ≡ list_all (λ x. not (t x y)) v
eight_lanes t y v long = ap (λ m. m == 0) (bitmask_splat w8 t v 8 y long (omega arith)) ∙ none_set (λ x. t x y) v

twice : (b : Bool) → not (not b) ≡ b
twice true = refl
twice false = refl

pub equal_lanes : (y : ℕ) (v : List ℕ) → length v ≡ 8
    → (mask_l (map (top 7) (zip2 (λ a b. cond (not (a == b)) 255 0) v (replicate 8 y))) % 2 ^ 64 == 0) ≡ list_all (λ x. x == y) v
equal_lanes y v long = eight_lanes (λ a b. not (a == b)) y v long ∙ all_same (λ x. not (not (x == y))) (λ x. x == y) (λ x. twice (x == y)) v

-- the value of a digit, as lanes have it
abbrev pub lane_value : (minus plus : ℕ → ℕ → ℕ) → ℕ → ℕ
lane_value minus plus x = cond (ltb (minus x 48) 10) (minus x 48) (cond (ltb (minus x 97) 6) (plus (minus x 97) 10) 255)

abbrev all_values : (minus plus : ℕ → ℕ → ℕ) → List ℕ → ℕ → List ℕ
all_values minus plus v n =
    sel_l (map (top 7) (zip2 (λ a b. cond (ltb a b) 255 0) (zip2 minus v (replicate n 48)) (replicate n 10))) (zip2 minus v (replicate n 48))
    (sel_l (map (top 7) (zip2 (λ a b. cond (ltb a b) 255 0) (zip2 minus v (replicate n 97)) (replicate n 6))) (zip2 plus (zip2 minus v (replicate n 97)) (replicate n 10)) (replicate n 255))

abbrev tested_values : (minus plus : ℕ → ℕ → ℕ) → List ℕ → ℕ → List ℕ
tested_values minus plus v n =
    sel_l (zip2 ltb (zip2 minus v (replicate n 48)) (replicate n 10)) (zip2 minus v (replicate n 48))
    (sel_l (zip2 ltb (zip2 minus v (replicate n 97)) (replicate n 6)) (zip2 plus (zip2 minus v (replicate n 97)) (replicate n 10)) (replicate n 255))

each_value : (minus plus : ℕ → ℕ → ℕ) (v : List ℕ) → tested_values minus plus v (length v) ≡ map (lane_value minus plus) v
each_value minus plus [] = refl
each_value minus plus (x ∷ v) = ap (λ rest. lane_value minus plus x ∷ rest) (each_value minus plus v)

same_values : (f g : ℕ → ℕ) (v : List ℕ) → Each1 (Fits w8) v → ((x : ℕ) → x < 256 → f x ≡ g x) → map f v ≡ map g v
same_values f g [] fit same = refl
same_values f g (x ∷ v) fit same = ap (λ y. y ∷ map f v) (same x fit.0.fits) ∙ ap (λ rest. g x ∷ rest) (same_values f g v fit.1 same)

one_of : (x y : ℕ) → x ∷ [] ≡ y ∷ [] → x ≡ y
one_of x y is = cc

pub values_is : (minus plus : ℕ → ℕ → ℕ) (v : List ℕ) → length v ≡ 8 → Each1 (Fits w8) v
    → agree_below (λ x. lane_value minus plus x ∷ []) (λ x. digit_or_255 x ∷ []) 256 ≡ true
    → all_values minus plus v 8 ≡ map digit_or_255 v
values_is minus plus v long fit same =
    ap (λ ms. sel_l ms (zip2 minus v (replicate 8 48)) (sel_l (map (top 7) (zip2 (λ a b. cond (ltb a b) 255 0) (zip2 minus v (replicate 8 97)) (replicate 8 6))) (zip2 plus (zip2 minus v (replicate 8 97)) (replicate 8 10)) (replicate 8 255))) (tops_compared w8 ltb (zip2 minus v (replicate 8 48)) (replicate 8 10))
    ∙ ap (λ ms. sel_l (zip2 ltb (zip2 minus v (replicate 8 48)) (replicate 8 10)) (zip2 minus v (replicate 8 48)) (sel_l ms (zip2 plus (zip2 minus v (replicate 8 97)) (replicate 8 10)) (replicate 8 255)))
    (tops_compared w8 ltb (zip2 minus v (replicate 8 97)) (replicate 8 6))
    ∙ ap (tested_values minus plus v) (sym long) ∙ each_value minus plus v
    ∙ same_values (lane_value minus plus) digit_or_255 v fit
    (λ x less. one_of (lane_value minus plus x) (digit_or_255 x) (agree_at (λ x. lane_value minus plus x ∷ []) (λ x. digit_or_255 x ∷ []) 256 same x less))

-- ---- what escapes by digits say

by_two : (x : ℕ) (decimal letter : Bool) → ltb (if decimal then x - 48 else (if letter then x - 87 else 255)) 16 ≡ true
    → (if decimal then Some (x - 48) else (if letter then Some (x - 87) else None)) ≡ Some (if decimal then x - 48 else (if letter then x - 87 else 255))
by_two x true letter small = refl
by_two x false true small = refl
by_two x false false small = absurd (cc)

valued : (x : ℕ) → ltb (digit_or_255 x) 16 ≡ true → digit_value x ≡ Some (digit_or_255 x)
valued x small = by_two x (nat_le 48 x && nat_le x 57) (nat_le 97 x && nat_le x 102) small

abbrev Quad : Type 0
Quad = ℕ × ℕ × ℕ × ℕ

abbrev text_of : Quad → List ℕ
text_of q = q.0 ∷ q.1 ∷ q.2 ∷ q.3 ∷ []

abbrev octet_of : Quad → ℕ
octet_of q = 16 * digit_or_255 q.2 + digit_or_255 q.3

quad_says : (q : Quad) (rest : List ℕ) → (q.0 == 92) ≡ true → (q.1 == 120) ≡ true → ltb (digit_or_255 q.2) 16 ≡ true → ltb (digit_or_255 q.3) 16 ≡ true
    → said_from (text_of q ++ rest) Between ≡ option_map (said_before (Some (octet_of q))) (said_from rest Between)
quad_says q rest a b c d =
    slash q.0 (q.1 ∷ q.2 ∷ q.3 ∷ rest) a ∙ digits q.1 (q.2 ∷ q.3 ∷ rest) b
    ∙ by_digits q.2 q.3 (octet_of q) rest
    (ap (λ h. and_then h (λ h. option_map (λ l. 16 * h + l) (digit_value q.3))) (valued q.2 c) ∙ ap (option_map (λ l. 16 * digit_or_255 q.2 + l)) (valued q.3 d))

quads_say : (qs : List Quad) (rest : List ℕ) → list_all (λ q. q.0 == 92) qs ≡ true → list_all (λ q. q.1 == 120) qs ≡ true
    → list_all (λ q. ltb (digit_or_255 q.2) 16) qs ≡ true → list_all (λ q. ltb (digit_or_255 q.3) 16) qs ≡ true
    → said_from (flat_map text_of qs ++ rest) Between ≡ with_front (map octet_of qs) (said_from rest Between)
quads_say [] rest a b c d = sym (alone (said_from rest Between))
quads_say (q ∷ qs) rest a b c d =
    let a = both_of (q.0 == 92) (list_all (λ q. q.0 == 92) qs) a in
    let b = both_of (q.1 == 120) (list_all (λ q. q.1 == 120) qs) b in
    let c = both_of (ltb (digit_or_255 q.2) 16) (list_all (λ q. ltb (digit_or_255 q.2) 16) qs) c in
    let d = both_of (ltb (digit_or_255 q.3) 16) (list_all (λ q. ltb (digit_or_255 q.3) 16) qs) d in
    quad_says q (flat_map text_of qs ++ rest) a.0 b.0 c.0 d.0
    ∙ ap (option_map (said_before (Some (octet_of q)))) (quads_say qs rest a.1 b.1 c.1 d.1)
    ∙ led (octet_of q) (map octet_of qs) (said_from rest Between)

-- ---- the same of columns

abbrev slashes : List ℕ
slashes = 0 ∷ 4 ∷ 8 ∷ 12 ∷ 16 ∷ 20 ∷ 24 ∷ 28 ∷ []

abbrev letters : List ℕ
letters = 1 ∷ 5 ∷ 9 ∷ 13 ∷ 17 ∷ 21 ∷ 25 ∷ 29 ∷ []

abbrev highs : List ℕ
highs = 2 ∷ 6 ∷ 10 ∷ 14 ∷ 18 ∷ 22 ∷ 26 ∷ 30 ∷ []

abbrev lows : List ℕ
lows = 3 ∷ 7 ∷ 11 ∷ 15 ∷ 19 ∷ 23 ∷ 27 ∷ 31 ∷ []

abbrev quad_at : List ℕ → ℕ → ℕ → ℕ → ℕ → Quad
quad_at e a b c d = (get_or e a 0, get_or e b 0, get_or e c 0, get_or e d 0)

abbrev quads : List ℕ → List Quad
quads e =
    quad_at e 0 1 2 3 ∷ quad_at e 4 5 6 7 ∷ quad_at e 8 9 10 11 ∷ quad_at e 12 13 14 15
    ∷ quad_at e 16 17 18 19 ∷ quad_at e 20 21 22 23 ∷ quad_at e 24 25 26 27 ∷ quad_at e 28 29 30 31 ∷ []

-- lanes put two digits together
abbrev Joins : (plus times : ℕ → ℕ → ℕ) → Type 0
Joins plus times = (h l : ℕ) → h < 16 → l < 16 → plus (times h 16) l ≡ 16 * h + l

joined : (plus times : ℕ → ℕ → ℕ) (qs : List Quad) → Joins plus times
    → list_all (λ q. ltb (digit_or_255 q.2) 16) qs ≡ true → list_all (λ q. ltb (digit_or_255 q.3) 16) qs ≡ true
    → map (λ q. plus (times (digit_or_255 q.2) 16) (digit_or_255 q.3)) qs ≡ map octet_of qs
joined plus times [] joins c d = refl
joined plus times (q ∷ qs) joins c d =
    let c = both_of (ltb (digit_or_255 q.2) 16) (list_all (λ q. ltb (digit_or_255 q.2) 16) qs) c in
    let d = both_of (ltb (digit_or_255 q.3) 16) (list_all (λ q. ltb (digit_or_255 q.3) 16) qs) d in
    ap (λ o. o ∷ map (λ q. plus (times (digit_or_255 q.2) 16) (digit_or_255 q.3)) qs)
    (joins (digit_or_255 q.2) (digit_or_255 q.3) (ltb-true (digit_or_255 q.2) 16 c.0) (ltb-true (digit_or_255 q.3) 16 d.0))
    ∙ ap (λ rest. octet_of q ∷ rest) (joined plus times qs joins c.1 d.1)

abbrev picked : List ℕ → List ℕ → List ℕ
picked e places = pick_l 0 (e ++ e) places

pub eight_say : (plus times : ℕ → ℕ → ℕ) (e old new high low : List ℕ) → length e ≡ 32 → Joins plus times
    → list_all (λ x. x == 92) (picked e slashes) ≡ true → list_all (λ x. x == 120) (picked e letters) ≡ true
    → high ≡ map digit_or_255 (picked e highs) → low ≡ map digit_or_255 (picked e lows)
    → list_all (λ x. ltb x 16) high ≡ true → list_all (λ x. ltb x 16) low ≡ true
    → new ≡ old ++ zip2 plus (zip2 times high (replicate 8 16)) low
    → SayFront e old new
eight_say plus times e old new high low long joins a b h l c d put rest =
    let own : (places : List ℕ) → T (all_below 32 places) → picked e places ≡ pick_l 0 e places = λ places below. pick_l_left 0 e e 32 places long below in
    let h = h ∙ ap (map digit_or_255) (own highs tt) in
    let l = l ∙ ap (map digit_or_255) (own lows tt) in
    let qs = quads e in
    let a : list_all (λ q. q.0 == 92) qs ≡ true = sym (ap (list_all (λ x. x == 92)) (own slashes tt)) ∙ a in
    let b : list_all (λ q. q.1 == 120) qs ≡ true = sym (ap (list_all (λ x. x == 120)) (own letters tt)) ∙ b in
    let c : list_all (λ q. ltb (digit_or_255 q.2) 16) qs ≡ true = sym (ap (list_all (λ x. ltb x 16)) h) ∙ c in
    let d : list_all (λ q. ltb (digit_or_255 q.3) 16) qs ≡ true = sym (ap (list_all (λ x. ltb x 16)) l) ∙ d in
    let octets = map octet_of qs in
    let put : new ≡ old ++ octets =
    put ∙ ap (λ xs. old ++ zip2 plus (zip2 times xs (replicate 8 16)) low) h
    ∙ ap (λ xs. old ++ zip2 plus (zip2 times (map digit_or_255 (pick_l 0 e highs)) (replicate 8 16)) xs) l
    ∙ ap (λ xs. old ++ xs) (joined plus times qs joins c d) in
    let whole : flat_map text_of qs ≡ e = pick_l_whole 0 e 32 long in
    ap (λ t. with_front old (said_from (t ++ rest) Between)) (sym whole) ∙ ap (with_front old) (quads_say qs rest a b c d)
    ∙ rows_said old octets (said_from rest Between) ∙ ap (λ new. with_front new (said_from rest Between)) (sym put)
