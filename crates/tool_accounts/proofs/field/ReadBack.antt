-- A secret that was made is what its field says.
use Rattle.std.proofs.Common.{◌≡◌, ◌<◌, ◌≤◌, ℕ, zero, suc, ◌+◌, ◌-◌, ◌*◌, ◌/◌, ◌%◌, ◌&&◌, ◌==◌, List, [], ◌∷◌, ◌++◌, length, drop, get_or, decimal, nat_le, nat_lt, nat_eq, not, slice_index, sym, ◌∙◌, ap, subst, refl, arith, append_assoc, length-append, Bool, true, false, Option, Some, None, Result, Ok, Err, bytes_eq}
use Rattle.std.specs.Prelude.{⊤}
use Rattle.std.specs.List.{list_all, position_or_len, starts_with}
use Rattle.std.proofs.lemmas.Bool.Decides.{Decides-eqb, nat_tests}
use Rattle.std.proofs.lemmas.Fmt.{decimal_by_steps, first_decimal, length-decimal-le}
use Rattle.std.proofs.lemmas.List.Folds.{list_all-append}
use Rattle.std.proofs.lemmas.Slice.Eq.{bytes_eq-Decides, starts_is}
use Rattle.std.proofs.Math.Seq.{drop-append-add, take-append_seam}
use Rattle.ftp_secret.proofs.WrittenBack.{passed}
use Rattle.ftp_secret.specs.Crypt.{digest_c, digest_text, group, group_text, groups_text, hash_text, joined, letter, letters_of_number}
use Rattle.ftp_secret.specs.Secret.{cut, dollar, first_dollar, is_letter, letter_count, made, most_rounds, number_behind, opens, read, rounds_of, rounds_said, rounds_text, rounds_word, secret_text, sign, with_letters, with_method, with_rounds, with_salt}
use Rattle.ftp_secret.specs.declared.method.Method.{Method}
use Rattle.ftp_secret.specs.declared.method.Method.TheVariants.{Sha256, Sha512}
use Rattle.ftp_secret.specs.declared.fault.SecretFault.{SecretFault}
use Rattle.ftp_secret.specs.declared.fault.SecretFault.TheVariants as Faults
use Rattle.ftp_secret.specs.declared.secret.Secret.{Secret}
use Rattle.ftp_secret.specs.declared.secret.Secret.TheVariants.{Crypt}

-- ---- rounds

-- a digit behind a number
digit_behind : (from d : ℕ) → d < 10 → 10 * from + d ≤ 1000000 → number_behind from ((48 + d) ∷ []) ≡ Ok (10 * from + d)
digit_behind from d small few =
    let is_digit : not (nat_le 48 (48 + d) && nat_le (48 + d) 57) ≡ false = grind (arith, nat_tests) in
    let value : 10 * from + ((48 + d) - 48) ≡ 10 * from + d = omega arith in
    let within : nat_lt 1000000 (10 * from + d) ≡ false = grind (arith, nat_tests) in
    rw (is_digit, value, within) refl

-- digits behind digits
behind-append : (front digits : List ℕ) (from number : ℕ) → number_behind from front ≡ Ok number
    → number_behind from (front ++ digits) ≡ number_behind number digits
behind-append [] digits from number says =
    let same : from ≡ number = cc in
    ap (λ n. number_behind n digits) same
behind-append (d ∷ front) digits from number says =
    let next = 10 * from + (d - 48) in
    let first = passed (not (nat_le 48 d && nat_le d 57)) _ _ number says in
    let second = passed (nat_lt most_rounds next) _ _ number first.1 in
    rw (first.0, second.0) (behind-append front digits next number second.1)

-- what a decimal number says
abbrev SaysBack : ℕ → List ℕ → Type 0
SaysBack n digits = n ≤ 1000000 → number_behind 0 digits ≡ Ok n

says_back : (n : ℕ) → n ≤ 1000000 → number_behind 0 (decimal n) ≡ Ok n
says_back n few = decimal_by_steps SaysBack one more n (omega (arith, few)) few
  where
    one : (m : ℕ) → m < 10 → SaysBack m ((48 + m) ∷ [])
    one m small within =
        let value : 10 * 0 + m ≡ m = omega arith in
        digit_behind 0 m small (omega (arith, within)) ∙ ap (λ x. Ok x) value

    more : (m : ℕ) (front : List ℕ) → 10 ≤ m → SaysBack (m / 10) front → SaysBack m (front ++ ((48 + m % 10) ∷ []))
    more m front big before within =
        let whole : 10 * (m / 10) + m % 10 ≡ m = omega arith in
        behind-append front ((48 + m % 10) ∷ []) 0 (m / 10) (before (omega arith))
        ∙ digit_behind (m / 10) (m % 10) (omega arith) (omega (arith, within))
        ∙ ap (λ x. Ok x) whole

-- a number does not begin with 0
no_zero : (digits : List ℕ) → 48 < get_or digits 0 0 → starts_with nat_eq digits (48 ∷ []) ≡ false
no_zero [] large = absurd (omega (arith, large))
no_zero (d ∷ digits) large = grind (arith, nat_tests, large)

-- rounds within the limits are read back
rounds_back : (n : ℕ) → 1000 ≤ n → n ≤ 1000000 → rounds_said (decimal n) ≡ Ok n
rounds_back n enough few =
    let begins = no_zero (decimal n) (first_decimal n (omega (arith, enough)) (omega (arith, few))) in
    let least : nat_lt n 1000 ≡ false = grind (arith, nat_tests) in
    rw (begins, says_back n few, least) refl

-- ---- what is cut at a `$`

-- no octet is `$`
abbrev pub has_no_dollar : List ℕ → Bool
has_no_dollar octets = list_all (λ octet. not (octet == dollar)) octets

-- both of two tests
both : (a b : Bool) → (a && b) ≡ true → (a ≡ true) × (b ≡ true)
both true b h = (refl, h)
both false b h = absurd (cc)

-- a salt has none
no_dollar : (salt : List ℕ) → list_all is_letter salt ≡ true → has_no_dollar salt ≡ true
no_dollar [] are = refl
no_dollar (o ∷ salt) are =
    let parts = both (is_letter o) (list_all is_letter salt) are in
    let other : not (o == 36) ≡ true = other_octet o parts.0 in
    rw (other, no_dollar salt parts.1) refl
  where
    other_octet : (octet : ℕ) → is_letter octet ≡ true → not (octet == 36) ≡ true
    other_octet octet is = grind (arith, nat_tests, is)

-- a number has none
no_dollar_in : (n : ℕ) → n ≤ 1000000 → has_no_dollar (decimal n) ≡ true
no_dollar_in n few = decimal_by_steps (λ m digits. has_no_dollar digits ≡ true) one more n (omega (arith, few))
  where
    digit : (d : ℕ) → not ((48 + d) == 36) ≡ true
    digit d = grind (arith, nat_tests)

    one : (m : ℕ) → m < 10 → has_no_dollar ((48 + m) ∷ []) ≡ true
    one m small = rw (digit m) refl

    more : (m : ℕ) (front : List ℕ) → 10 ≤ m → has_no_dollar front ≡ true → has_no_dollar (front ++ ((48 + m % 10) ∷ [])) ≡ true
    more m front big before =
        list_all-append (λ octet. not (octet == dollar)) front ((48 + m % 10) ∷ []) ∙ (rw (before, digit (m % 10)) refl)

-- the first `$` is the one behind octets of which none is one
first_is : (front rest : List ℕ) → has_no_dollar front ≡ true → first_dollar (front ++ dollar ∷ rest) ≡ Some (length front)
unfolding first_dollar
first_is front rest none =
    let at = place front none in
    let within : nat_lt (length front) (length (front ++ dollar ∷ rest)) ≡ true = let e = length-append front (dollar ∷ rest) in grind (arith, nat_tests, e) in
    rw (at, within) refl
  where
    place : (xs : List ℕ) → has_no_dollar xs ≡ true → position_or_len (λ octet. octet == dollar) (xs ++ dollar ∷ rest) ≡ length xs
    place [] h = refl
    place (x ∷ xs) h =
        let parts = both (not (x == dollar)) (has_no_dollar xs) h in
        let before = place xs parts.1 in
        rw (parts.0, before) (omega arith)

-- what stands before it and behind it
cut_at_first : (front rest : List ℕ) → has_no_dollar front ≡ true → cut (front ++ dollar ∷ rest) ≡ Some (front, rest)
cut_at_first front rest none =
    let before = take-append_seam front (dollar ∷ rest) in
    let behind : drop (length front + 1) (front ++ dollar ∷ rest) ≡ rest = drop-append-add front (dollar ∷ rest) 1 in
    rw (first_is front rest none, before, behind) refl

-- ---- letters

-- the letter of six bits is one
pub letter_is : (bits : ℕ) → bits < 64 → is_letter (letter bits) ≡ true
letter_is bits small = grind (arith, nat_tests, small)

-- so many letters
letters_length : (count number : ℕ) → length (letters_of_number count number) ≡ count
letters_length zero number = refl
letters_length (suc count) number = ap suc (letters_length count (number / 64))

letters_are : (count number : ℕ) → list_all is_letter (letters_of_number count number) ≡ true
letters_are zero number = refl
letters_are (suc count) number = rw (letter_is (number % 64) (omega arith), letters_are count (number / 64)) refl

groups_length : (method : Method) (c : List ℕ) (count : ℕ) → length (groups_text method c count) ≡ 4 * count
unfolding groups_text
groups_length method c zero = refl
groups_length method c (suc place) =
    let e = length-append (groups_text method c place) (group_text method c place) in
    let before = groups_length method c place in
    e ∙ ap (λ n. n + 4) before ∙ omega arith

group_are : (method : Method) (c : List ℕ) (place : ℕ) → list_all is_letter (group_text method c place) ≡ true
group_are method c place =
    let g = group method place in
    letters_are 4 (joined (slice_index c g.0) (slice_index c g.1) (slice_index c g.2))

groups_are : (method : Method) (c : List ℕ) (count : ℕ) → list_all is_letter (groups_text method c count) ≡ true
unfolding groups_text
groups_are method c zero = refl
groups_are method c (suc place) =
    list_all-append is_letter (groups_text method c place) (group_text method c place) ∙ (rw (groups_are method c place) (group_are method c place))

-- a digest has as many letters as its method writes
text_length : (method : Method) (c : List ℕ) → length (digest_text method c) ≡ letter_count method
text_length Sha256 c = length-append (groups_text Sha256 c 10) _ ∙ ap (λ n. n + 3) (groups_length Sha256 c 10)
text_length Sha512 c = length-append (groups_text Sha512 c 21) _ ∙ ap (λ n. n + 2) (groups_length Sha512 c 21)

text_are : (method : Method) (c : List ℕ) → list_all is_letter (digest_text method c) ≡ true
text_are Sha256 c =
    list_all-append is_letter (groups_text Sha256 c 10) _
    ∙ (rw (groups_are Sha256 c 10) (letters_are 3 (joined 0 (slice_index c 31) (slice_index c 30))))
text_are Sha512 c =
    list_all-append is_letter (groups_text Sha512 c 21) _
    ∙ (rw (groups_are Sha512 c 21) (letters_are 2 (joined 0 0 (slice_index c 63))))

-- ---- the field

-- a salt, `$` and what stands behind do not begin like rounds
no_rounds : (salt hash : List ℕ) → list_all is_letter salt ≡ true → starts_with nat_eq (salt ++ dollar ∷ hash) rounds_word ≡ false
no_rounds salt hash are = by_test (starts_with nat_eq (salt ++ dollar ∷ hash) rounds_word) refl
  where
    apart : (xs word rest : List ℕ) → xs ++ dollar ∷ hash ≡ word ++ rest → list_all is_letter xs ≡ true → has_no_dollar word ≡ true
        → list_all is_letter word ≡ true
    apart xs [] rest e h none = refl
    apart [] (w ∷ word) rest e h none =
        let same : w ≡ 36 = cc in
        absurd (cc)
    apart (x ∷ xs) (w ∷ word) rest e h none =
        let same : x ≡ w = cc in
        let tails : xs ++ dollar ∷ hash ≡ word ++ rest = cc in
        let parts = both (is_letter x) (list_all is_letter xs) h in
        let others = both (not (w == dollar)) (has_no_dollar word) none in
        let is : is_letter w ≡ true = subst (λ o. is_letter o ≡ true) same parts.0 in
        rw (is, apart xs word rest tails parts.1 others.1) refl

    by_test : (test : Bool) → test ≡ starts_with nat_eq (salt ++ dollar ∷ hash) rounds_word → test ≡ false
    by_test false e = refl
    by_test true e =
        let whole = (starts_is Decides-eqb (salt ++ dollar ∷ hash) rounds_word _ refl).0 (sym e) in
        let all = apart salt rounds_word (drop 7 (salt ++ dollar ∷ hash)) whole are refl in
        absurd (cc)

-- a salt and a digest
letters_back : (method : Method) (rounds : Option ℕ) (salt hash : List ℕ)
    → nat_le (length salt) 16 ≡ true → list_all is_letter salt ≡ true → length hash ≡ letter_count method → list_all is_letter hash ≡ true
    → with_letters method rounds salt hash
    ≡ Ok (Crypt record { method = method; rounds = rounds; salt = record { items = salt }; hash = record { items = hash } })
letters_back method rounds salt hash short are count all =
    let counted : (length hash == letter_count method) ≡ true = (Decides-eqb (length hash) (letter_count method)).1 count in
    rw (short, are, counted, all) refl

-- a number of rounds is within the limits
abbrev pub AreRounds : Option ℕ → Type 0
AreRounds None = ⊤
AreRounds (Some n) = (1000 ≤ n) × (n ≤ 1000000)

-- a salt, `$` and a digest
salt_back : (method : Method) (rounds : Option ℕ) (salt hash : List ℕ)
    → nat_le (length salt) 16 ≡ true → list_all is_letter salt ≡ true → length hash ≡ letter_count method → list_all is_letter hash ≡ true
    → with_salt method rounds (salt ++ dollar ∷ hash)
    ≡ Ok (Crypt record { method = method; rounds = rounds; salt = record { items = salt }; hash = record { items = hash } })
salt_back method rounds salt hash short are count all =
    ap (λ cut. elim cut as (λ _. Result Secret SecretFault) [ Some parts ↦ with_letters method rounds parts.0 parts.1 | None ↦ Err Faults.Salt ])
    (cut_at_first salt hash (no_dollar salt are))
    ∙ letters_back method rounds salt hash short are count all

-- rounds, and a salt, `$` and a digest behind them
rounds_salt_back : (method : Method) (n : ℕ) (salt hash : List ℕ) → AreRounds (Some n)
    → nat_le (length salt) 16 ≡ true → list_all is_letter salt ≡ true → length hash ≡ letter_count method → list_all is_letter hash ≡ true
    → with_rounds method (decimal n ++ dollar ∷ (salt ++ dollar ∷ hash))
    ≡ Ok (Crypt record { method = method; rounds = Some n; salt = record { items = salt }; hash = record { items = hash } })
rounds_salt_back method n salt hash within short are count all =
    ap (λ cut. elim cut as (λ _. Result Secret SecretFault) [
      | Some parts ↦ elim (rounds_said parts.0) as (λ _. Result Secret SecretFault)
          [ Ok rounds ↦ with_salt method (Some rounds) parts.1 | Err fault ↦ Err fault ]
      | None ↦ Err Faults.Rounds
    ]) (cut_at_first (decimal n) (salt ++ dollar ∷ hash) (no_dollar_in n within.1))
    ∙ ap (λ said. elim said as (λ _. Result Secret SecretFault)
    [ Ok rounds ↦ with_salt method (Some rounds) (salt ++ dollar ∷ hash) | Err fault ↦ Err fault ]) (rounds_back n within.0 within.1)
    ∙ salt_back method (Some n) salt hash short are count all

-- what stands behind the sign
behind_sign : (method : Method) (rounds : Option ℕ) (salt hash : List ℕ) → AreRounds rounds
    → nat_le (length salt) 16 ≡ true → list_all is_letter salt ≡ true → length hash ≡ letter_count method → list_all is_letter hash ≡ true
    → with_method method ((rounds_text rounds ++ salt) ++ dollar ∷ hash)
    ≡ Ok (Crypt record { method = method; rounds = rounds; salt = record { items = salt }; hash = record { items = hash } })
behind_sign method None salt hash within short are count all =
    rw (no_rounds salt hash are) (salt_back method None salt hash short are count all)
behind_sign method (Some n) salt hash within short are count all =
    ap (with_rounds method) (shuffled (decimal n) salt (dollar ∷ hash)) ∙ rounds_salt_back method n salt hash within short are count all
  where
    shuffled : (a b c : List ℕ) → ((a ++ dollar ∷ []) ++ b) ++ c ≡ a ++ dollar ∷ (b ++ c)
    shuffled a b c = simp append_assoc

-- a field is not too long
rounds_length : (rounds : Option ℕ) → AreRounds rounds → length (rounds_text rounds) ≤ 15
rounds_length None within = omega arith
rounds_length (Some n) within =
    let digits = length-decimal-le 7 n (omega arith) (omega (arith, within.1)) (omega (arith, within.1)) in
    let whole = length-append (decimal n) (dollar ∷ []) in
    omega (arith, digits, whole)

pub text_short : (method : Method) (rounds : Option ℕ) (salt hash : List ℕ) → AreRounds rounds
    → length salt ≤ 16 → length hash ≡ letter_count method → length (((sign method ++ rounds_text rounds) ++ salt) ++ dollar ∷ hash) ≤ 254
text_short method rounds salt hash within short count =
    let a = length-append (sign method) (rounds_text rounds) in
    let b = length-append (sign method ++ rounds_text rounds) salt in
    let c = length-append ((sign method ++ rounds_text rounds) ++ salt) (dollar ∷ hash) in
    let r = rounds_length rounds within in
    let few = few_letters method in
    omega (arith, a, b, c, r, short, count, few.0, few.1)
  where
    few_letters : (m : Method) → (length (sign m) ≡ 3) × (letter_count m ≤ 86)
    few_letters Sha256 = (refl, omega arith)
    few_letters Sha512 = (refl, omega arith)

-- a field of SHA-crypt is read back
crypt_back : (method : Method) (rounds : Option ℕ) (salt hash : List ℕ) → AreRounds rounds
    → nat_le (length salt) 16 ≡ true → list_all is_letter salt ≡ true → length hash ≡ letter_count method → list_all is_letter hash ≡ true
    → let secret = Crypt record { method = method; rounds = rounds; salt = record { items = salt }; hash = record { items = hash } } in
    (read (secret_text secret) ≡ Ok secret) × (length (secret_text secret) ≤ 254)
crypt_back method rounds salt hash within short are count all =
    let few = text_short method rounds salt hash within (grind (arith, nat_tests, short)) count in
    let long : nat_lt 255 (length (((sign method ++ rounds_text rounds) ++ salt) ++ dollar ∷ hash)) ≡ false = grind (arith, nat_tests, few) in
    (by_method method few long (behind_sign method rounds salt hash within short are count all), few)
  where
    by_method : (m : Method) → length (((sign m ++ rounds_text rounds) ++ salt) ++ dollar ∷ hash) ≤ 254
        → nat_lt 255 (length (((sign m ++ rounds_text rounds) ++ salt) ++ dollar ∷ hash)) ≡ false
        → with_method m ((rounds_text rounds ++ salt) ++ dollar ∷ hash)
        ≡ Ok (Crypt record { method = m; rounds = rounds; salt = record { items = salt }; hash = record { items = hash } })
        → read (((sign m ++ rounds_text rounds) ++ salt) ++ dollar ∷ hash)
        ≡ Ok (Crypt record { method = m; rounds = rounds; salt = record { items = salt }; hash = record { items = hash } })
    by_method Sha256 few long behind = rw long behind
    by_method Sha512 few long behind = rw long behind

-- a secret that is made is read back from its field, and is opened by its password
pub record IsBack (secret : Secret) (password : List ℕ) : Type 0 where
  pub short : length (secret_text secret) ≤ 254
  pub reads : read (secret_text secret) ≡ Ok secret
  pub is_opened : opens secret password ≡ true

pub made_back : (method : Method) (rounds : Option ℕ) (salt password : List ℕ) (secret : Secret)
    → made method rounds salt password ≡ Ok secret → IsBack secret password
made_back method rounds salt password secret says =
    let hash = hash_text method (rounds_of rounds) salt password in
    let own : Secret = Crypt record { method = method; rounds = rounds; salt = record { items = salt }; hash = record { items = hash } } in
    let first = passed (not (nat_le (length salt) 16 && list_all is_letter salt)) _ _ secret says in
    let second = passed (nat_lt (rounds_of rounds) 1000) _ _ secret first.1 in
    let third = passed (nat_lt most_rounds (rounds_of rounds)) _ _ secret second.1 in
    let same : own ≡ secret = cc in
    let parts = both (nat_le (length salt) 16) (list_all is_letter salt) (unturned _ first.0) in
    let c = digest_c method (rounds_of rounds) salt password in
    let back = crypt_back method rounds salt hash (are_rounds rounds second.0 third.0) parts.0 parts.1 (text_length method c) (text_are method c) in
    subst (λ s. IsBack s password) same (record { short = back.1; reads = back.0; is_opened = same_text hash })
  where
    unturned : (b : Bool) → not b ≡ false → b ≡ true
    unturned true h = refl
    unturned false h = absurd (cc)

    are_rounds : (r : Option ℕ) → nat_lt (rounds_of r) 1000 ≡ false → nat_lt 1000000 (rounds_of r) ≡ false → AreRounds r
    are_rounds None few many = tt
    are_rounds (Some n) few many = (grind (arith, nat_tests, few), grind (arith, nat_tests, many))

    same_text : (xs : List ℕ) → bytes_eq xs xs ≡ true
    same_text xs = (bytes_eq-Decides xs xs).1 refl
