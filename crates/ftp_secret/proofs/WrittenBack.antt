-- A field that is read is what is written for the secret that it says.
use Rattle.std.proofs.Common.{◌≡◌, ◌<◌, ◌≤◌, ◌≢◌, ℕ, suc, ◌+◌, ◌-◌, ◌*◌, ◌/◌, ◌%◌, ◌&&◌, ◌==◌, List, [], ◌∷◌, ◌++◌, length, take, drop, get_or, decimal, nat_le, nat_lt, nat_eq, not, sym, ◌∙◌, ap, refl, arith, add-one, append_assoc, append-nil, Bool, true, false, if◌then◌else◌, Option, Some, None, Result, Ok, Err}
use Rattle.std.specs.List.{list_all, starts_with}
use Rattle.std.proofs.Math.Seq.{drop-cons}
use Rattle.std.proofs.lemmas.Bool.Decides.{Decides-eqb, nat_tests}
use Rattle.std.proofs.lemmas.Fmt.{decimal_digit, decimal_step}
use Rattle.std.proofs.lemmas.List.{take-append-drop}
use Rattle.std.proofs.lemmas.List.Quantifiers.{position-Some}
use Rattle.std.proofs.lemmas.Slice.Eq.{starts_is}
use Rattle.ftp_secret.specs.Secret.{cut, cut_around, dollar, first_dollar, has_kind, is_letter, letter_count, most_field_octets, most_rounds, number_behind, read, rounds_said, rounds_text, rounds_word, secret_text, sign, with_letters, with_method, with_rounds, with_salt}
use Rattle.ftp_secret.specs.declared.method.Method.{Method}
use Rattle.ftp_secret.specs.declared.method.Method.TheVariants.{Sha256, Sha512}
use Rattle.ftp_secret.specs.declared.fault.SecretFault.{SecretFault}
use Rattle.ftp_secret.specs.declared.fault.SecretFault.TheVariants as Faults
use Rattle.ftp_secret.specs.declared.secret.Secret.{Secret}
use Rattle.ftp_secret.specs.declared.secret.Secret.TheVariants.{Plain, Crypt}

-- what is no fault passed its test
pub passed : {A : Type 0} (test : Bool) (fault : SecretFault) (rest : Result A SecretFault) (x : A)
    → (if test then Err fault else rest) ≡ Ok x → (test ≡ false) × (rest ≡ Ok x)
passed true fault rest x says = absurd (cc)
passed false fault rest x says = (refl, says)

-- what is no fault comes of no fault
pub record Through {A B : Type 0} (r : Result A SecretFault) (next : A → Result B SecretFault) (x : B) : Type 0 where
  pub value : A
  pub first : r ≡ Ok value
  pub goes_on : next value ≡ Ok x

pub through : {A B : Type 0} (r : Result A SecretFault) (next : A → Result B SecretFault) (x : B)
    → elim r as (λ _. Result B SecretFault) [ Ok a ↦ next a | Err fault ↦ Err fault ] ≡ Ok x → Through r next x
through (Ok a) next x says = record { value = a; first = refl; goes_on = says }
through (Err fault) next x says = absurd (cc)

pub record Within {A B : Type 0} (o : Option A) (next : A → Result B SecretFault) (x : B) : Type 0 where
  pub value : A
  pub first : o ≡ Some value
  pub goes_on : next value ≡ Ok x

pub within : {A B : Type 0} (o : Option A) (fault : SecretFault) (next : A → Result B SecretFault) (x : B)
    → elim o as (λ _. Result B SecretFault) [ Some a ↦ next a | None ↦ Err fault ] ≡ Ok x → Within o next x
within (Some a) fault next x says = record { value = a; first = refl; goes_on = says }
within None fault next x says = absurd (cc)

-- one of two readings
pub data Either (test : Bool) (one other : Type 0) : Type 0 where
  It : test ≡ true → one → Either test one other
  Other : test ≡ false → other → Either test one other

pub either : {A : Type 0} (test : Bool) (one other : A) (x : A) → (if test then one else other) ≡ x → Either test (one ≡ x) (other ≡ x)
either true one other x says = It refl says
either false one other x says = Other refl says

-- digits behind a number, of which the number that they say is written
pub digits_are : (digits : List ℕ) (number rounds : ℕ) → 1 ≤ number → number_behind number digits ≡ Ok rounds → decimal rounds ≡ decimal number ++ digits
digits_are [] number rounds some says =
    let same : rounds ≡ number = cc in
    rw (same, append-nil) refl
digits_are (d ∷ digits) number rounds some says =
    let next = 10 * number + (d - 48) in
    let first = passed (not (nat_le 48 d && nat_le d 57)) _ _ rounds says in
    let second = passed (nat_lt most_rounds next) _ _ rounds first.1 in
    let bounds : (48 ≤ d) × (d ≤ 57) = digit_bounds d first.0 in
    let few : next ≤ 1000000 = few_rounds next second.0 in
    let rest = digits_are digits next rounds (omega arith) second.1 in
    let front : next / 10 ≡ number = omega arith in
    let last : 48 + next % 10 ≡ d = omega arith in
    let step : decimal next ≡ decimal (next / 10) ++ ((48 + next % 10) ∷ []) = decimal_step next (omega arith) (omega arith) in
    rest ∙ ap (λ text. text ++ digits) (rw (front, last) at step) ∙ append_assoc (decimal number) (d ∷ []) digits
  where
    digit_bounds : (d : ℕ) → not (nat_le 48 d && nat_le d 57) ≡ false → (48 ≤ d) × (d ≤ 57)
    digit_bounds d test = grind (arith, nat_tests)

    few_rounds : (n : ℕ) → nat_lt 1000000 n ≡ false → n ≤ 1000000
    few_rounds n test = grind (arith, nat_tests)

-- digits that say rounds are as the number is written
pub rounds_are : (digits : List ℕ) (rounds : ℕ) → rounds_said digits ≡ Ok rounds → decimal rounds ≡ digits
rounds_are [] rounds says = absurd (cc)
rounds_are (d ∷ digits) rounds says =
    let next = 10 * 0 + (d - 48) in
    let first = passed (starts_with nat_eq (d ∷ digits) (48 ∷ [])) _ _ rounds says in
    let read = through (number_behind 0 (d ∷ digits)) (λ n. if nat_lt n 1000 then Err Faults.Rounds else Ok n) rounds first.1 in
    let enough = passed (nat_lt read.value 1000) _ _ rounds read.goes_on in
    let digit = passed (not (nat_le 48 d && nat_le d 57)) _ _ read.value read.first in
    let few = passed (nat_lt most_rounds next) _ _ read.value digit.1 in
    let bounds : (48 ≤ d) × (d ≤ 57) = digit_bounds d digit.0 in
    let some : d ≢ 48 = no_zero d first.0 in
    let rest = digits_are digits next read.value (omega arith) few.1 in
    let is : next ≡ d - 48 = omega arith in
    let back : 48 + (d - 48) ≡ d = omega arith in
    let front : decimal (d - 48) ≡ (48 + (d - 48)) ∷ [] = decimal_digit (d - 48) (omega arith) in
    let value : read.value ≡ rounds = cc in
    ap decimal (sym value) ∙ rest ∙ ap (λ n. decimal n ++ digits) is ∙ ap (λ text. text ++ digits) (rw back at front)
  where
    digit_bounds : (d : ℕ) → not (nat_le 48 d && nat_le d 57) ≡ false → (48 ≤ d) × (d ≤ 57)
    digit_bounds d test = grind (arith, nat_tests)

    no_zero : (d : ℕ) → starts_with nat_eq (d ∷ digits) (48 ∷ []) ≡ false → d ≢ 48
    no_zero d test same =
        let it = sym test ∙ ap (λ x. starts_with nat_eq (x ∷ digits) (48 ∷ [])) same in
        absurd (cc)

-- what is cut at a place
pub record CutAt (o : Option ℕ) (octets front behind : List ℕ) : Type 0 where
  pub place : ℕ
  pub is : o ≡ Some place
  pub front_is : take place octets ≡ front
  pub behind_is : drop (place + 1) octets ≡ behind

pub at_place : (o : Option ℕ) (octets front behind : List ℕ) → cut_around octets o ≡ Some (front, behind) → CutAt o octets front behind
at_place None octets front behind says = absurd (cc)
at_place (Some place) octets front behind says =
    let own : List ℕ × List ℕ = (take place octets, drop (place + 1) octets) in
    let given : List ℕ × List ℕ = (front, behind) in
    let parts : own ≡ given = cc in
    record { place = place; is = refl; front_is = ap (λ p. p.0) parts; behind_is = ap (λ p. p.1) parts }

-- what stands before the first `$`, it, and what stands behind are the whole
pub cut_is : (octets front behind : List ℕ) → cut octets ≡ Some (front, behind) → front ++ dollar ∷ behind ≡ octets
unfolding first_dollar
cut_is octets front behind says =
    let at = at_place (first_dollar octets) octets front behind says in
    let there = position-Some (λ octet. octet == dollar) octets at.place 0 at.is in
    let short : at.place < length octets = there.0 in
    let mark : get_or octets at.place 0 ≡ dollar = (Decides-eqb (get_or octets at.place 0) dollar).0 there.1 in
    let rest : drop at.place octets ≡ get_or octets at.place 0 ∷ drop (suc at.place) octets = drop-cons octets at.place 0 short in
    let whole = take-append-drop at.place octets in
    let behind_is : drop (suc at.place) octets ≡ behind = (rw add-one at at.behind_is) in
    rw (rest, mark, behind_is, at.front_is) at whole

-- a salt and a digest
pub with_letters_is : (method : Method) (rounds : Option ℕ) (salt hash : List ℕ) (secret : Secret)
    → with_letters method rounds salt hash ≡ Ok secret → secret_text secret ≡ sign method ++ rounds_text rounds ++ salt ++ dollar ∷ hash
with_letters_is method rounds salt hash secret says =
    let first = passed (not (nat_le (length salt) 16 && list_all is_letter salt)) _ _ secret says in
    let second = passed (not ((length hash == letter_count method) && list_all is_letter hash)) _ _ secret first.1 in
    let same : Crypt record { method = method; rounds = rounds; salt = record { items = salt }; hash = record { items = hash } } ≡ secret = cc in
    sym (ap secret_text same)

pub with_salt_is : (method : Method) (rounds : Option ℕ) (octets : List ℕ) (secret : Secret)
    → with_salt method rounds octets ≡ Ok secret → secret_text secret ≡ sign method ++ rounds_text rounds ++ octets
with_salt_is method rounds octets secret says =
    let w = within (cut octets) Faults.Salt (λ parts. with_letters method rounds parts.0 parts.1) secret says in
    let parts = cut_is octets w.value.0 w.value.1 w.first in
    with_letters_is method rounds w.value.0 w.value.1 secret w.goes_on
    ∙ append_assoc (sign method ++ rounds_text rounds) w.value.0 (dollar ∷ w.value.1)
    ∙ ap (λ rest. sign method ++ rounds_text rounds ++ rest) parts

pub with_rounds_is : (method : Method) (octets : List ℕ) (secret : Secret)
    → with_rounds method octets ≡ Ok secret → secret_text secret ≡ sign method ++ (rounds_word ++ octets)
with_rounds_is method octets secret says =
    let w = within (cut octets) Faults.Rounds (λ parts. elim (rounds_said parts.0) as (λ _. Result Secret SecretFault)
    [ Ok rounds ↦ with_salt method (Some rounds) parts.1 | Err fault ↦ Err fault ]) secret says in
    let t = through (rounds_said w.value.0) (λ rounds. with_salt method (Some rounds) w.value.1) secret w.goes_on in
    let parts = cut_is octets w.value.0 w.value.1 w.first in
    with_salt_is method (Some t.value) w.value.1 secret t.goes_on
    ∙ shuffled (sign method) rounds_word (decimal t.value) w.value.1 dollar
    ∙ ap (λ digits. sign method ++ (rounds_word ++ (digits ++ dollar ∷ w.value.1))) (rounds_are w.value.0 t.value t.first)
    ∙ ap (λ rest. sign method ++ (rounds_word ++ rest)) parts
  where
    shuffled : (a b c e : List ℕ) (x : ℕ) → (a ++ ((b ++ c) ++ x ∷ [])) ++ e ≡ a ++ (b ++ (c ++ x ∷ e))
    shuffled a b c e x = simp append_assoc

pub with_method_is : (method : Method) (octets : List ℕ) (secret : Secret)
    → with_method method octets ≡ Ok secret → secret_text secret ≡ sign method ++ octets
with_method_is method octets secret says =
    elim (either (starts_with nat_eq octets rounds_word) (with_rounds method (drop 7 octets)) (with_salt method None octets) (Ok secret) says) [
      | It test goes ↦ with_rounds_is method (drop 7 octets) secret goes
          ∙ ap (λ rest. sign method ++ rest) (sym ((starts_is Decides-eqb octets rounds_word _ refl).0 test))
      | Other test goes ↦ with_salt_is method None octets secret goes ∙ ap (λ front. front ++ octets) (append-nil (sign method))
    ]

-- a field that says a secret is what is written for it
pub read_is : (field : List ℕ) (secret : Secret) → read field ≡ Ok secret → secret_text secret ≡ field
read_is field secret says =
    let first = passed (nat_lt most_field_octets (length field)) _ _ secret says in
    elim (either (starts_with nat_eq field (sign Sha256)) _ _ (Ok secret) first.1) [
      | It test goes ↦ with_method_is Sha256 (drop 3 field) secret goes ∙ sym ((starts_is Decides-eqb field (sign Sha256) _ refl).0 test)
      | Other test goes ↦ or_large goes
    ]
  where
    plain : (if has_kind field then Err Faults.Kind else Ok (Plain record { items = field })) ≡ Ok secret → secret_text secret ≡ field
    plain goes =
        let last = passed (has_kind field) _ _ secret goes in
        let same : Plain record { items = field } ≡ secret = cc in
        sym (ap secret_text same)

    or_large : (if starts_with nat_eq field (sign Sha512) then with_method Sha512 (drop 3 field)
        else (if has_kind field then Err Faults.Kind else Ok (Plain record { items = field }))) ≡ Ok secret → secret_text secret ≡ field
    or_large goes =
        elim (either (starts_with nat_eq field (sign Sha512)) _ _ (Ok secret) goes) [
          | It test there ↦ with_method_is Sha512 (drop 3 field) secret there ∙ sym ((starts_is Decides-eqb field (sign Sha512) _ refl).0 test)
          | Other test there ↦ plain there
        ]
