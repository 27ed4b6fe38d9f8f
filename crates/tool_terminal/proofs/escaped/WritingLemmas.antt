-- Characters that are shown as they stand are UTF-8, and what is written of octets at once is what is shown of them.
use Rattle.std.proofs.Common.{◌≡◌, ◌<◌, ◌≤◌, ◌++◌, ◌-◌, ◌+◌, ◌*◌, ◌/◌, ◌%◌, ◌∙◌, ◌&&◌, ◌==◌, ◌⊎◌, inl, inr, ℕ, suc, zero, Bool, true, false, List, [], ◌∷◌, length, drop, take, get_or, sym, refl, ap, subst, arith, if◌then◌else◌, ne_eqb, append_assoc}
use Rattle.std.specs.Str.{IsUtf8}
use Rattle.std.specs.Char.{IsScalar}
use Rattle.std.proofs.Math.Utf8.{encode, next}
use Rattle.std.proofs.lemmas.Bool.{cases_lt}
use Rattle.std.proofs.lemmas.Str.{IsUtf8-encode, encode_ascii}
use Rattle.tool_terminal.proofs.escaped.ShownLemmas.{front, none}
use Rattle.std.proofs.lemmas.List.{append-nil, at_drop_all, drop-drop, length-drop}
use Rattle.tool_terminal.specs.escaped.Shown.{is_from, is_plain, is_tail, is_second_of_three, is_second_of_four, is_three, is_four, len_two, len_three, len_four, shown_len, kept_of, octet_shown, octet_escaped, shown_from, front_shown}

-- a number that passes the test is between both
between : (a b c : ℕ) → is_from a b c ≡ true → (a ≤ c) × (c ≤ b)
between a b c e = grind arith

both : (x y : Bool) → (x && y) ≡ true → (x ≡ true) × (y ≡ true)
both true y e = (refl, e)
both false y e = absurd (cc e)

-- the octets of characters of two, three and four
encode_two : (c : ℕ) → 128 ≤ c → c < 2048 → encode c ≡ (192 + c / 64) ∷ next c ∷ []
unfolding encode
encode_two c low high = grind arith

encode_three : (c : ℕ) → 2048 ≤ c → c < 65536 → encode c ≡ (224 + c / 4096) ∷ next (c / 64) ∷ next c ∷ []
unfolding encode
encode_three c low high = grind arith

encode_four : (c : ℕ) → 65536 ≤ c → encode c ≡ (240 + c / 262144) ∷ next (c / 4096) ∷ next (c / 64) ∷ next c ∷ []
unfolding encode
encode_four c low = grind arith

-- below the surrogates, and past them
is_scalar : (c : ℕ) → (c < 55296) ⊎ ((57344 ≤ c) × (c < 1114112)) → IsScalar c
is_scalar c (inl below) = grind arith
is_scalar c (inr past) = grind arith

-- octets that a character has are UTF-8
spelled : (c : ℕ) (octets : List ℕ) → IsScalar c → encode c ≡ octets → IsUtf8 octets
spelled c octets is same = subst IsUtf8 same (IsUtf8-encode c is)

-- so many octets at the front are there, and are UTF-8
abbrev Front : ℕ → List ℕ → Type 0
Front count octets = (count ≤ length octets) × IsUtf8 (take count octets)

-- either way the least and the greatest are within these
least_within : (t : Bool) (a b n : ℕ) → n ≤ a → n ≤ b → n ≤ (if t then a else b)
least_within true a b n p q = p
least_within false a b n p q = q

greatest_within : (t : Bool) (a b n : ℕ) → a ≤ n → b ≤ n → (if t then a else b) ≤ n
greatest_within true a b n p q = p
greatest_within false a b n p q = q

-- the second octet of a character of three, and of one of four
second_of_three : (x y : ℕ) → is_second_of_three x y ≡ true → (0x80 ≤ y) × (y ≤ 0xBF) × (x ≡ 0xE0 → 0xA0 ≤ y) × (x ≡ 0xED → y ≤ 0x9F)
second_of_three x y e =
    let most = between _ _ y e in
    let low = least_within (x == 0xE0) 0xA0 0x80 0x80 (omega arith) (omega arith) in
    let high = greatest_within (x == 0xED) 0x9F 0xBF 0xBF (omega arith) (omega arith) in (
      omega (arith, most.0, low),
      omega (arith, most.1, high),
      λ is. (between 0xA0 0xBF y (subst (λ v. is_second_of_three v y ≡ true) is e)).0,
      λ is. (between 0x80 0x9F y (subst (λ v. is_second_of_three v y ≡ true) is e)).1,
    )

second_of_four : (x y : ℕ) → is_second_of_four x y ≡ true → (0x80 ≤ y) × (y ≤ 0xBF) × (x ≡ 0xF0 → 0x90 ≤ y) × (x ≡ 0xF4 → y ≤ 0x8F)
second_of_four x y e =
    let most = between _ _ y e in
    let low = least_within (x == 0xF0) 0x90 0x80 0x80 (omega arith) (omega arith) in
    let high = greatest_within (x == 0xF4) 0x8F 0xBF 0xBF (omega arith) (omega arith) in (
      omega (arith, most.0, low),
      omega (arith, most.1, high),
      λ is. (between 0x90 0xBF y (subst (λ v. is_second_of_four v y ≡ true) is e)).0,
      λ is. (between 0x80 0x8F y (subst (λ v. is_second_of_four v y ≡ true) is e)).1,
    )

-- a character of two octets
two : (x y : ℕ) (rest : List ℕ) → is_from 0xC2 0xDF x ≡ true → is_tail y ≡ true → Front 2 (x ∷ y ∷ rest)
two x y rest first second =
    let a = between 0xC2 0xDF x first in
    let b = between 0x80 0xBF y second in
    let c = (x - 192) * 64 + (y - 128) in
    let parts = encode_two c (omega (arith, a.0, b.0)) (omega (arith, a.1, b.1)) in
    let first_is : 192 + c / 64 ≡ x = omega (arith, a, b) in
    let second_is : 128 + c % 64 ≡ y = omega (arith, a, b) in
    (omega arith, spelled c _ (is_scalar c (inl (omega (arith, a, b)))) (parts ∙ ap (λ v. v ∷ next c ∷ []) first_is ∙ ap (λ v. x ∷ v ∷ []) second_is))

-- a character of three octets is past those of two, and no surrogate
low_of_three : (x y z : ℕ) → 0xE0 ≤ x → (x ≡ 0xE0 → 0xA0 ≤ y) → 2048 ≤ (x - 224) * 4096 + (y - 128) * 64 + (z - 128)
low_of_three x y z first second = elim (cases_lt x 225) [
  | inl is ↦ let more = second (omega arith) in omega (arith, more)
  | inr past ↦ omega arith
]

apart_of_three : (x y z : ℕ) → x ≤ 0xEF → y ≤ 0xBF → z ≤ 0xBF → (x ≡ 0xED → y ≤ 0x9F)
    → let c = (x - 224) * 4096 + (y - 128) * 64 + (z - 128) in (c < 55296) ⊎ ((57344 ≤ c) × (c < 1114112))
apart_of_three x y z first second third limit = elim (cases_lt x 238) [
  | inl below ↦ elim (cases_lt x 237) [
    | inl less ↦ inl (omega arith)
    | inr is ↦ let most = limit (omega arith) in inl (omega (arith, most))
  ]
  | inr past ↦ inr (omega arith, omega arith)
]

three : (x y z : ℕ) (rest : List ℕ) → is_from 0xE0 0xEF x ≡ true → is_second_of_three x y ≡ true → is_tail z ≡ true → Front 3 (x ∷ y ∷ z ∷ rest)
three x y z rest first second third =
    let a = between 0xE0 0xEF x first in
    let b = second_of_three x y second in
    let d = between 0x80 0xBF z third in
    let c = (x - 224) * 4096 + (y - 128) * 64 + (z - 128) in
    let low = low_of_three x y z a.0 b.2 in
    let apart = apart_of_three x y z a.1 b.1 d.1 b.3 in
    let parts = encode_three c low (omega (arith, a, b.1, d)) in
    let first_is : 224 + c / 4096 ≡ x = omega (arith, a, b.0, b.1, d) in
    let second_is : 128 + c / 64 % 64 ≡ y = omega (arith, a, b.0, b.1, d) in
    let third_is : 128 + c % 64 ≡ z = omega (arith, a, b.0, b.1, d) in (
      omega arith,
      spelled c _ (is_scalar c apart)
          (parts ∙ ap (λ v. v ∷ next (c / 64) ∷ next c ∷ []) first_is ∙ ap (λ v. x ∷ v ∷ next c ∷ []) second_is ∙ ap (λ v. x ∷ y ∷ v ∷ []) third_is),
    )

-- a character of four octets is past those of three, and within Unicode
inside_of_four : (x y : ℕ) → 0xF0 ≤ x → x ≤ 0xF4 → y ≤ 0xBF → (x ≡ 0xF0 → 0x90 ≤ y) → (x ≡ 0xF4 → y ≤ 0x8F)
    → let high = (x - 240) * 64 + (y - 128) in (16 ≤ high) × (high < 272)
inside_of_four x y first last second least greatest = elim (cases_lt x 241) [
  | inl is ↦ let more = least (omega arith) in (omega (arith, more), omega arith)
  | inr past ↦ elim (cases_lt x 244) [
    | inl less ↦ (omega arith, omega arith)
    | inr is ↦ let most = greatest (omega arith) in (omega arith, omega (arith, most))
  ]
]

four : (x y z w : ℕ) (rest : List ℕ) → is_from 0xF0 0xF4 x ≡ true → is_second_of_four x y ≡ true → is_tail z ≡ true → is_tail w ≡ true
    → Front 4 (x ∷ y ∷ z ∷ w ∷ rest)
four x y z w rest first second third last =
    let a = between 0xF0 0xF4 x first in
    let b = second_of_four x y second in
    let d = between 0x80 0xBF z third in
    let e = between 0x80 0xBF w last in
    let inside = inside_of_four x y a.0 a.1 b.1 b.2 b.3 in
    let c = (x - 240) * 262144 + (y - 128) * 4096 + (z - 128) * 64 + (w - 128) in
    let parts = encode_four c (omega (arith, inside.0)) in
    let first_is : 240 + c / 262144 ≡ x = omega (arith, a, b.0, b.1, d, e) in
    let second_is : 128 + c / 4096 % 64 ≡ y = omega (arith, a, b.0, b.1, d, e) in
    let third_is : 128 + c / 64 % 64 ≡ z = omega (arith, a, b.0, b.1, d, e) in
    let last_is : 128 + c % 64 ≡ w = omega (arith, a, b.0, b.1, d, e) in (
      omega arith,
      spelled c _ (is_scalar c (inr (omega (arith, inside.0), omega (arith, inside.1, d, e))))
          (parts ∙ ap (λ v. v ∷ next (c / 4096) ∷ next (c / 64) ∷ next c ∷ []) first_is ∙ ap (λ v. x ∷ v ∷ next (c / 64) ∷ next c ∷ []) second_is
          ∙ ap (λ v. x ∷ y ∷ v ∷ next c ∷ []) third_is ∙ ap (λ v. x ∷ y ∷ z ∷ v ∷ []) last_is),
    )

-- so many octets where a test holds, and else none
chosen : (t : Bool) (count : ℕ) (octets : List ℕ) → 0 < (if t then count else 0) → (t ≡ true → Front count octets) → Front (if t then count else 0) octets
chosen true count octets some holds = holds refl
chosen false count octets some holds = absurd (omega (arith, some))

front_two : (x : ℕ) (rest : List ℕ) → is_from 0xC2 0xDF x ≡ true → 0 < len_two x rest → Front (len_two x rest) (x ∷ rest)
front_two x [] first some = absurd (omega (arith, some))
front_two x (y ∷ rest) first some = chosen _ 2 (x ∷ y ∷ rest) some (λ e. two x y rest first (both _ _ e).0)

front_three : (x : ℕ) (rest : List ℕ) → is_from 0xE0 0xEF x ≡ true → 0 < len_three x rest → Front (len_three x rest) (x ∷ rest)
front_three x [] first some = absurd (omega (arith, some))
front_three x (y ∷ []) first some = absurd (omega (arith, some))
front_three x (y ∷ z ∷ rest) first some =
    chosen (is_three x y z) 3 (x ∷ y ∷ z ∷ rest) some (λ e.
    let parts = both (is_second_of_three x y && is_tail z) _ e in
    let inner = both (is_second_of_three x y) (is_tail z) parts.0 in
    three x y z rest first inner.0 inner.1)

front_four : (x : ℕ) (rest : List ℕ) → is_from 0xF0 0xF4 x ≡ true → 0 < len_four x rest → Front (len_four x rest) (x ∷ rest)
front_four x [] first some = absurd (omega (arith, some))
front_four x (y ∷ []) first some = absurd (omega (arith, some))
front_four x (y ∷ z ∷ []) first some = absurd (omega (arith, some))
front_four x (y ∷ z ∷ w ∷ rest) first some =
    chosen (is_four x y z w) 4 (x ∷ y ∷ z ∷ w ∷ rest) some (λ e.
    let parts = both (is_second_of_four x y && is_tail z && is_tail w) _ e in
    let inner = both (is_second_of_four x y && is_tail z) (is_tail w) parts.0 in
    let outer = both (is_second_of_four x y) (is_tail z) inner.0 in
    four x y z w rest first outer.0 outer.1 inner.1)

-- a plain octet
front_one : (x : ℕ) (rest : List ℕ) → is_plain x ≡ true → Front 1 (x ∷ rest)
front_one x rest plain =
    let a = between 32 126 x (both _ _ plain).0 in (omega arith, spelled x _ (is_scalar x (inl (omega (arith, a.1)))) (encode_ascii x (omega (arith, a.1))))

-- what is shown as it stands at the front is there, and is UTF-8
pub shown_front : (octets : List ℕ) → 0 < shown_len octets → Front (shown_len octets) octets
shown_front [] some = absurd (omega (arith, some))
shown_front (x ∷ rest) some = by (is_plain x) (is_from 0xC2 0xDF x) (is_from 0xE0 0xEF x) (is_from 0xF0 0xF4 x) refl refl refl refl some
  where
    by : (p a b d : Bool) → is_plain x ≡ p → is_from 0xC2 0xDF x ≡ a → is_from 0xE0 0xEF x ≡ b → is_from 0xF0 0xF4 x ≡ d
        → let n = (if p then 1 else (if a then len_two x rest else (if b then len_three x rest else (if d then len_four x rest else 0)))) in
        0 < n → Front n (x ∷ rest)
    by true a b d plain _ _ _ h = front_one x rest plain
    by false true b d _ first _ _ h = front_two x rest first h
    by false false true d _ _ first _ h = front_three x rest first h
    by false false false true _ _ _ first h = front_four x rest first h
    by false false false false _ _ _ _ h = absurd (omega (arith, h))

-- where it is known of so many, it is these
known : (k : ℕ) (octets : List ℕ) → 0 < k → kept_of k octets ≡ k
known k octets some = ap (λ t. if t then shown_len octets else k) (ne_eqb k 0 (λ none. absurd (omega (arith, none, some))))

-- an octet of which that is known stands as it is
stands : (k x : ℕ) → 0 < k → octet_shown k x ≡ x ∷ []
stands k x some = ap (λ t. if t then octet_escaped x else x ∷ []) (ne_eqb k 0 (λ none. absurd (omega (arith, none, some))))

-- octets that stand as they are, and then what the rest shows
as_they_are : (k : ℕ) (octets : List ℕ) → k ≤ length octets → shown_from k octets ≡ take k octets ++ shown_from 0 (drop k octets)
as_they_are zero octets fits = refl
as_they_are (suc k) [] fits = absurd (omega (arith, fits))
as_they_are (suc k) (x ∷ octets) fits =
    let is : kept_of (suc k) (x ∷ octets) ≡ suc k = known (suc k) (x ∷ octets) (omega arith) in
    let less : suc k - 1 ≡ k = omega arith in
    front (suc k) x octets
    ∙ ap (λ n. octet_shown n x ++ shown_from (n - 1) octets) is
    ∙ ap (λ l. l ++ shown_from (suc k - 1) octets) (stands (suc k) x (omega arith))
    ∙ ap (λ n. x ∷ shown_from n octets) less
    ∙ ap (λ l. x ∷ l) (as_they_are k octets (omega (arith, fits)))

-- what is written at once at the front, and then what the rest shows, are what is shown
pub front_and_rest : (octets : List ℕ) → 0 < length octets
    → front_shown 0 octets ++ shown_from 0 (drop (suc (kept_of 0 octets - 1)) octets) ≡ shown_from 0 octets
front_and_rest [] some = absurd (omega (arith, some))
front_and_rest (x ∷ octets) some = by (cases_lt 0 (shown_len (x ∷ octets)))
  where
    n : ℕ
    n = shown_len (x ∷ octets)

    by : (0 < n) ⊎ (n ≤ 0) → front_shown 0 (x ∷ octets) ++ shown_from 0 (drop (suc (n - 1)) (x ∷ octets)) ≡ shown_from 0 (x ∷ octets)
    by (inl more) =
        let there = (shown_front (x ∷ octets) more).0 in
        let last : suc (n - 1) ≡ n = omega (arith, more) in
        let same : kept_of n (x ∷ octets) ≡ n = known n (x ∷ octets) more in
        let piece : front_shown 0 (x ∷ octets) ≡ take n (x ∷ octets) =
        ap (λ t. if t then octet_escaped x else take n (x ∷ octets)) (ne_eqb n 0 (λ none. absurd (omega (arith, none, more)))) in
        ap (λ l. l ++ shown_from 0 (drop (suc (n - 1)) (x ∷ octets))) piece
        ∙ ap (λ m. take n (x ∷ octets) ++ shown_from 0 (drop m (x ∷ octets))) last
        ∙ sym (as_they_are n (x ∷ octets) there)
        ∙ front n x octets
        ∙ ap (λ m. octet_shown m x ++ shown_from (m - 1) octets) same
        ∙ sym (front 0 x octets)
    by (inr less) =
        let zero_is : n ≡ 0 = omega (arith, less) in
        let first : suc (n - 1) ≡ 1 = omega (arith, less) in
        let piece : front_shown 0 (x ∷ octets) ≡ octet_escaped x = ap (λ m. if m == 0 then octet_escaped x else take m (x ∷ octets)) zero_is in
        ap (λ l. l ++ shown_from 0 (drop (suc (n - 1)) (x ∷ octets))) piece
        ∙ ap (λ m. octet_escaped x ++ shown_from 0 (drop m (x ∷ octets))) first
        ∙ ap (λ m. octet_shown m x ++ shown_from (m - 1) octets) (sym zero_is)
        ∙ sym (front 0 x octets)

-- One more place: nothing is written amid a character, else what is written at once; what was written and what the rest shows stay the same.
pub one_more_written : (octets seen done all : List ℕ) (at written later : ℕ) → at < length octets
    → seen ≡ drop at octets
    → later ≡ kept_of written seen - 1
    → done ++ shown_from 0 (drop (at + written) octets) ≡ all
    → (done ++ front_shown written seen) ++ shown_from 0 (drop (at + 1 + later) octets) ≡ all
one_more_written octets seen done all at written later inside sees is so_far = by (cases_lt 0 written)
  where
    by : (0 < written) ⊎ (written ≤ 0) → (done ++ front_shown written seen) ++ shown_from 0 (drop (at + 1 + later) octets) ≡ all
    by (inl more) =
        let same : later ≡ written - 1 = is ∙ ap (λ m. m - 1) (known written seen more) in
        let place : at + 1 + later ≡ at + written = omega (arith, same, more) in
        let none_now : front_shown written seen ≡ [] =
        ap (λ t. if t then (if shown_len seen == 0 then octet_escaped (get_or seen 0 0) else take (shown_len seen) seen) else [])
        (ne_eqb written 0 (λ none. absurd (omega (arith, none, more)))) in
        ap (λ l. (done ++ l) ++ shown_from 0 (drop (at + 1 + later) octets)) none_now
        ∙ ap (λ l. l ++ shown_from 0 (drop (at + 1 + later) octets)) (append-nil done)
        ∙ ap (λ m. done ++ shown_from 0 (drop m octets)) place
        ∙ so_far
    by (inr less) =
        let zero_is : written ≡ 0 = omega (arith, less) in
        let here : at + written ≡ at = omega (arith, less) in
        let next_is : later ≡ kept_of 0 seen - 1 = is ∙ ap (λ m. kept_of m seen - 1) zero_is in
        let place : at + 1 + later ≡ at + suc (kept_of 0 seen - 1) = omega (arith, next_is) in
        let some : 0 < length seen = omega (arith, ap length sees, length-drop at octets, inside) in
        let cut : drop (at + suc (kept_of 0 seen - 1)) octets ≡ drop (suc (kept_of 0 seen - 1)) seen =
        sym (drop-drop (suc (kept_of 0 seen - 1)) at octets) ∙ ap (λ l. drop (suc (kept_of 0 seen - 1)) l) (sym sees) in
        ap (λ m. (done ++ front_shown m seen) ++ shown_from 0 (drop (at + 1 + later) octets)) zero_is
        ∙ append_assoc done (front_shown 0 seen) (shown_from 0 (drop (at + 1 + later) octets))
        ∙ ap (λ m. done ++ (front_shown 0 seen ++ shown_from 0 (drop m octets))) place
        ∙ ap (λ l. done ++ (front_shown 0 seen ++ shown_from 0 l)) cut
        ∙ ap (λ l. done ++ l) (front_and_rest seen some)
        ∙ ap (λ l. done ++ shown_from 0 l) sees
        ∙ ap (λ m. done ++ shown_from 0 (drop m octets)) (sym here)
        ∙ so_far

-- where no octet is left, all is written
pub all_written : (octets done all : List ℕ) (at written : ℕ) → length octets ≤ at
    → done ++ shown_from 0 (drop (at + written) octets) ≡ all → done ≡ all
all_written octets done all at written past is =
    sym (append-nil done) ∙ ap (λ l. done ++ l) (sym (none 0))
    ∙ sym (at_drop_all (λ l. done ++ shown_from 0 l) octets (at + written) (omega (arith, past))) ∙ is
