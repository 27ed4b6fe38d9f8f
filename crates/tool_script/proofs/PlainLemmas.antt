-- Octets that stand for themselves, read and written.
use Rattle.std.proofs.Common.{◌≡◌, ◌≤◌, ◌==◌, ◌&&◌, ℕ, Bool, true, false, List, [], ◌∷◌, ◌++◌, take, drop, flat_map, Some, option_map, refl, sym, ap, ◌∙◌, arith}
use Rattle.std.proofs.lemmas.Bool.{leb-true, ne_eqb}
use Rattle.std.proofs.lemmas.List.{take-append-drop}
use Rattle.std.specs.List.{list_all}
use Rattle.std.specs.Prelude.{if◌then◌else◌, not, nat_le}
use Rattle.tool_script.specs.Field.{Between, backslash, digits_written, is_plain, said_before, said_from, with_front, written}
use Rattle.tool_script.proofs.FieldLemmas.{alone, itself, led}

-- both of two that hold together
left : (a b : Bool) → (a && b) ≡ true → a ≡ true
left true b is = refl
left false b is = absurd (cc)

right : (a b : Bool) → (a && b) ≡ true → b ≡ true
right true b is = is
right false b is = absurd (cc)

-- the last of three that hold together, which is denied
third : (a b c : Bool) → (a && b && not c) ≡ true → c ≡ false
third true true true is = absurd (cc)
third true true false is = refl
third true false c is = absurd (cc)
third false true c is = absurd (cc)
third false false c is = absurd (cc)

first : (a b c : Bool) → (a && b && not c) ≡ true → a ≡ true
first true b c is = refl
first false true c is = absurd (cc)
first false false c is = absurd (cc)

-- a text of such octets says them
pub plain_said : (text : List ℕ) → list_all is_plain text ≡ true → said_from text Between ≡ Some text
plain_said [] all = refl
plain_said (octet ∷ text) all =
    let plain = left (is_plain octet) (list_all is_plain text) all in
    itself octet text (third (nat_le 33 octet) (nat_le octet 126) (octet == backslash) plain) plain
    ∙ ap (option_map (λ rest. octet ∷ rest)) (plain_said text (right (is_plain octet) (list_all is_plain text) all))

front_said : (front behind : List ℕ) → list_all is_plain front ≡ true → said_from (front ++ behind) Between ≡ with_front front (said_from behind Between)
front_said [] behind all = sym (alone (said_from behind Between))
front_said (octet ∷ front) behind all =
    let plain = left (is_plain octet) (list_all is_plain front) all in
    itself octet (front ++ behind) (third (nat_le 33 octet) (nat_le octet 126) (octet == backslash) plain) plain
    ∙ ap (option_map (said_before (Some octet))) (front_said front behind (right (is_plain octet) (list_all is_plain front) all))
    ∙ led octet front (said_from behind Between)

-- a text begins with such octets
pub plain_front : (text front behind : List ℕ) → front ≡ take 32 text → behind ≡ drop 32 text → list_all is_plain front ≡ true
    → said_from text Between ≡ with_front front (said_from behind Between)
plain_front text front behind f b all =
    sym (ap (λ t. said_from t Between) (ap (λ l. l ++ behind) f ∙ ap (λ l. take 32 text ++ l) b ∙ take-append-drop 32 text)) ∙ front_said front behind all

-- an octet that has no letter
abbrev unlettered : ℕ → Bool → List ℕ
unlettered octet plain = if plain then octet ∷ [] else digits_written octet

-- an octet by its tests
abbrev by_tests : ℕ → Bool → Bool → Bool → Bool → Bool → List ℕ
by_tests octet space feed return slash plain =
    if space then backslash ∷ 115 ∷ []
    else (if feed then backslash ∷ 110 ∷ []
    else (if return then backslash ∷ 114 ∷ [] else (if slash then backslash ∷ backslash ∷ [] else unlettered octet plain)))

-- such an octet is written as it is
one : (octet : ℕ) → 33 ≤ octet → (octet == backslash) ≡ false → is_plain octet ≡ true → written octet ≡ octet ∷ []
one octet low other plain =
    let at_least : (n : ℕ) → n ≤ 32 → (octet == n) ≡ false = λ n most. ne_eqb octet n (λ same. absurd (omega (arith, same, low, most))) in
    ap (λ b. by_tests octet b (octet == 10) (octet == 13) (octet == backslash) (is_plain octet)) (at_least 32 (omega arith))
    ∙ ap (λ b. by_tests octet false b (octet == 13) (octet == backslash) (is_plain octet)) (at_least 10 (omega arith))
    ∙ ap (λ b. by_tests octet false false b (octet == backslash) (is_plain octet)) (at_least 13 (omega arith))
    ∙ ap (λ b. by_tests octet false false false b (is_plain octet)) other
    ∙ ap (λ b. by_tests octet false false false false b) plain

plain_written : (octets : List ℕ) → list_all is_plain octets ≡ true → flat_map written octets ≡ octets
plain_written [] all = refl
plain_written (octet ∷ octets) all =
    let plain = left (is_plain octet) (list_all is_plain octets) all in
    let other = third (nat_le 33 octet) (nat_le octet 126) (octet == backslash) plain in
    let low = first (nat_le 33 octet) (nat_le octet 126) (octet == backslash) plain in
    ap (λ front. front ++ flat_map written octets) (one octet (leb-true 33 octet low) other plain)
    ∙ ap (λ rest. octet ∷ rest) (plain_written octets (right (is_plain octet) (list_all is_plain octets) all))

-- so what is put of them is what is written of them
pub plain_put : (new old octets : List ℕ) → list_all is_plain octets ≡ true → new ≡ old ++ octets → new ≡ old ++ flat_map written octets
plain_put new old octets plain put = put ∙ ap (λ tail. old ++ tail) (sym (plain_written octets plain))
