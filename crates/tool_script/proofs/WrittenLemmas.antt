-- What is written of octets, read back.
use Rattle.std.proofs.Common.{◌≡◌, ◌+◌, ◌*◌, ◌/◌, ◌%◌, ◌<◌, ◌==◌, ◌&&◌, ℕ, zero, suc, Bool, true, false, List, [], ◌∷◌, ◌++◌, length, flat_map, Option, Some, None, option_map, All, refl, sym, ap, subst, ◌∙◌, arith}
use Rattle.std.proofs.lemmas.Bool.{eqb-true, ne_eqb}
use Rattle.std.proofs.lemmas.List.Elements.{All-head, All-tail}
use Rattle.std.specs.Cmp.Lexicographic.{pointwise}
use Rattle.std.specs.Prelude.{if◌then◌else◌, nat_eq}
use Rattle.ftp_facts.specs.Value.{and_then}
use Rattle.tool_script.specs.Field.{Between, Low, backslash, digit_octet, digit_value, digits_octet, digits_written, empty_field, field_text, field_value, is_plain, other_written, said_before, said_from, written}
use Rattle.tool_script.proofs.FieldLemmas.{begun, ended, from_turn, silent}

-- ---- one octet

-- a text in front of others says one octet
abbrev SaysOctet : ℕ → List ℕ → List ℕ → Type 0
SaysOctet octet text rest = said_from (text ++ rest) Between ≡ option_map (λ octets. octet ∷ octets) (said_from rest Between)

-- a digit and its value
digit_back : (v : ℕ) → v < 16 → digit_value (digit_octet v) ≡ Some v
digit_back zero inside = refl
digit_back (suc zero) inside = refl
digit_back (suc (suc zero)) inside = refl
digit_back (suc (suc (suc zero))) inside = refl
digit_back (suc (suc (suc (suc zero)))) inside = refl
digit_back (suc (suc (suc (suc (suc zero))))) inside = refl
digit_back (suc (suc (suc (suc (suc (suc zero)))))) inside = refl
digit_back (suc (suc (suc (suc (suc (suc (suc zero))))))) inside = refl
digit_back (suc (suc (suc (suc (suc (suc (suc (suc zero)))))))) inside = refl
digit_back (suc (suc (suc (suc (suc (suc (suc (suc (suc zero))))))))) inside = refl
digit_back (suc (suc (suc (suc (suc (suc (suc (suc (suc (suc zero)))))))))) inside = refl
digit_back (suc (suc (suc (suc (suc (suc (suc (suc (suc (suc (suc zero))))))))))) inside = refl
digit_back (suc (suc (suc (suc (suc (suc (suc (suc (suc (suc (suc (suc zero)))))))))))) inside = refl
digit_back (suc (suc (suc (suc (suc (suc (suc (suc (suc (suc (suc (suc (suc zero))))))))))))) inside = refl
digit_back (suc (suc (suc (suc (suc (suc (suc (suc (suc (suc (suc (suc (suc (suc zero)))))))))))))) inside = refl
digit_back (suc (suc (suc (suc (suc (suc (suc (suc (suc (suc (suc (suc (suc (suc (suc zero))))))))))))))) inside = refl
digit_back (suc (suc (suc (suc (suc (suc (suc (suc (suc (suc (suc (suc (suc (suc (suc (suc v)))))))))))))))) inside = absurd (omega (arith, inside))

digits_back : (octet : ℕ) → octet < 256 → digits_octet (digit_octet (octet / 16)) (digit_octet (octet % 16)) ≡ Some octet
digits_back octet fits =
    let high : octet / 16 < 16 = omega arith in
    let low : octet % 16 < 16 = omega arith in
    let whole : 16 * (octet / 16) + octet % 16 ≡ octet = omega arith in
    ap (λ o. and_then o (λ h. option_map (λ l. 16 * h + l) (digit_value (digit_octet (octet % 16))))) (digit_back (octet / 16) high)
    ∙ ap (λ o. option_map (λ l. 16 * (octet / 16) + l) o) (digit_back (octet % 16) low) ∙ ap (λ v. Some v) whole

-- an octet that has no letter
abbrev unlettered : ℕ → Bool → List ℕ
unlettered octet plain = if plain then octet ∷ [] else digits_written octet

other_back : (octet : ℕ) (rest : List ℕ) (plain : Bool) → octet < 256 → (octet == backslash) ≡ false → is_plain octet ≡ plain → SaysOctet octet (unlettered octet plain) rest
other_back octet rest true fits other is =
    ap (λ b. from_turn rest (begun octet b (is_plain octet))) other ∙ ap (λ b. from_turn rest (begun octet false b)) is
other_back octet rest false fits other is =
    let high = digit_octet (octet / 16) in
    let low = digit_octet (octet % 16) in
    let last = said_from (low ∷ rest) (Low high) in
    silent (option_map (said_before None) (option_map (said_before None) last)) ∙ silent (option_map (said_before None) last) ∙ silent last
    ∙ ap (λ o. from_turn rest (ended o)) (digits_back octet fits)

-- an octet by its tests
abbrev by_tests : ℕ → Bool → Bool → Bool → Bool → List ℕ
by_tests octet space feed return slash =
    if space then backslash ∷ 115 ∷ []
    else (if feed then backslash ∷ 110 ∷ []
    else (if return then backslash ∷ 114 ∷ [] else (if slash then backslash ∷ backslash ∷ [] else other_written octet)))

-- an escape by a letter
letter_back : (octet said letter : ℕ) (rest : List ℕ) → (octet == said) ≡ true → SaysOctet said (backslash ∷ letter ∷ []) rest → SaysOctet octet (backslash ∷ letter ∷ []) rest
letter_back octet said letter rest is back =
    let P : ℕ → Type 0 = λ o. SaysOctet o (backslash ∷ letter ∷ []) rest in
    subst P (sym (eqb-true octet said is)) back

octet_back : (octet : ℕ) (rest : List ℕ) (space feed return slash : Bool) → octet < 256
    → (octet == 32) ≡ space → (octet == 10) ≡ feed → (octet == 13) ≡ return → (octet == backslash) ≡ slash
    → SaysOctet octet (by_tests octet space feed return slash) rest
octet_back octet rest true feed return slash fits a b c d = letter_back octet 32 115 rest a (silent (option_map (λ octets. 32 ∷ octets) (said_from rest Between)))
octet_back octet rest false true return slash fits a b c d = letter_back octet 10 110 rest b (silent (option_map (λ octets. 10 ∷ octets) (said_from rest Between)))
octet_back octet rest false false true slash fits a b c d = letter_back octet 13 114 rest c (silent (option_map (λ octets. 13 ∷ octets) (said_from rest Between)))
octet_back octet rest false false false true fits a b c d = letter_back octet 92 92 rest d (silent (option_map (λ octets. 92 ∷ octets) (said_from rest Between)))
octet_back octet rest false false false false fits a b c d = other_back octet rest (is_plain octet) fits d refl

-- ---- all octets

all_back : (octets : List ℕ) → All (λ octet. octet < 256) octets → said_from (flat_map written octets) Between ≡ Some octets
all_back [] all = refl
all_back (octet ∷ octets) all =
    octet_back octet (flat_map written octets) (octet == 32) (octet == 10) (octet == 13) (octet == backslash) (All-head (λ o. o < 256) octet octets all) refl refl refl refl
    ∙ ap (option_map (λ rest. octet ∷ rest)) (all_back octets (All-tail (λ o. o < 256) octet octets all))

-- a text is neither empty nor `\e`
abbrev IsOther : List ℕ → Type 0
IsOther text = (pointwise nat_eq text empty_field ≡ false) × ((length text == 0) ≡ false)

some : (octet : ℕ) (text : List ℕ) → (length (octet ∷ text) == 0) ≡ false
some octet text = ne_eqb (suc (length text)) 0 (λ same. absurd (omega (arith, same)))

other_is : (octet : ℕ) (rest : List ℕ) (plain : Bool) → (octet == backslash) ≡ false → IsOther (unlettered octet plain ++ rest)
other_is octet rest true other = (ap (λ b. b && pointwise nat_eq rest (101 ∷ [])) other, some octet rest)
other_is octet rest false other = (refl, some backslash (120 ∷ digit_octet (octet / 16) ∷ digit_octet (octet % 16) ∷ rest))

octet_is : (octet : ℕ) (rest : List ℕ) (space feed return slash : Bool) → (octet == backslash) ≡ slash → IsOther (by_tests octet space feed return slash ++ rest)
octet_is octet rest true feed return slash d = (refl, some backslash (115 ∷ rest))
octet_is octet rest false true return slash d = (refl, some backslash (110 ∷ rest))
octet_is octet rest false false true slash d = (refl, some backslash (114 ∷ rest))
octet_is octet rest false false false true d = (refl, some backslash (backslash ∷ rest))
octet_is octet rest false false false false d = other_is octet rest (is_plain octet) d

pub field_back : (octets : List ℕ) → All (λ octet. octet < 256) octets → field_value (field_text octets) ≡ Some octets
field_back [] all = refl
field_back (octet ∷ octets) all =
    let text = flat_map written (octet ∷ octets) in
    let is = octet_is octet (flat_map written octets) (octet == 32) (octet == 10) (octet == 13) (octet == backslash) refl in
    let P : Bool → Option (List ℕ) = λ b. if b then Some [] else (if length text == 0 then None else said_from text Between) in
    let Q : Bool → Option (List ℕ) = λ b. if b then None else said_from text Between in
    ap (λ b. field_value (if b then empty_field else text)) (some octet octets) ∙ ap P is.0 ∙ ap Q is.1 ∙ all_back (octet ∷ octets) all
