-- The password that an account needs, as the field of a file has it (crypt(5)), and which password opens it.
use Rattle.std.specs.Prelude.{ℕ, ◌+◌, ◌-◌, ◌*◌, ◌&&◌, ◌||◌, ◌==◌, Bool, true, false, not, nat_lt, nat_le, nat_eq, if◌then◌else◌}
use Rattle.std.specs.Prelude.{List, [], ◌∷◌, ◌++◌, length, take, drop, position, decimal, Option, Some, None, Result, Ok, Err}
use Rattle.std.specs.List.{list_all, starts_with}
use Rattle.std.specs.Str.{bytes_eq}
use Rattle.ftp_secret.specs.Crypt.{hash_text}
use Rattle.ftp_secret.specs.declared.method.Method.{Method}
use Rattle.ftp_secret.specs.declared.method.Method.TheVariants.{Sha256, Sha512}
use Rattle.ftp_secret.specs.declared.fault.SecretFault.{SecretFault}
use Rattle.ftp_secret.specs.declared.fault.SecretFault.TheVariants as Faults
use Rattle.ftp_secret.specs.declared.reading.TheConstants.{ROUNDS_LIMIT}
use Rattle.ftp_secret.specs.declared.secret.Secret.{Secret}
use Rattle.ftp_secret.specs.declared.secret.Secret.TheVariants.{Plain, Crypt}

-- how many rounds are made: 5,000 where the field does not say it
abbrev pub rounds_of : Option ℕ → ℕ
rounds_of None = 5000
rounds_of (Some rounds) = rounds

-- a password opens a secret: it is the one that stands there, or what SHA-crypt gives for it stands there
abbrev pub opens : Secret → (password : List ℕ) → Bool
opens (Plain right) password = bytes_eq right.items password
opens (Crypt crypt) password = bytes_eq crypt.hash.items (hash_text crypt.method (rounds_of crypt.rounds) crypt.salt.items password)

-- ---- how a secret is written

-- `$5$` or `$6$`
abbrev pub sign : Method → List ℕ
sign Sha256 = 36 ∷ 53 ∷ 36 ∷ []
sign Sha512 = 36 ∷ 54 ∷ 36 ∷ []

-- `$`, which ends a part
abbrev pub dollar : ℕ
dollar = 36

-- `rounds=`
abbrev pub rounds_word : List ℕ
rounds_word = 114 ∷ 111 ∷ 117 ∷ 110 ∷ 100 ∷ 115 ∷ 61 ∷ []

-- `rounds=N$`, or nothing
abbrev pub rounds_text : Option ℕ → List ℕ
rounds_text None = []
rounds_text (Some rounds) = rounds_word ++ decimal rounds ++ dollar ∷ []

-- the field of a secret
abbrev pub secret_text : Secret → List ℕ
secret_text (Plain right) = right.items
secret_text (Crypt crypt) = sign crypt.method ++ rounds_text crypt.rounds ++ crypt.salt.items ++ dollar ∷ crypt.hash.items

-- a password in clear, as a secret
abbrev pub plain : List ℕ → Secret
plain password = Plain record { items = password }

-- ---- how a field is read

-- a letter of a salt and of a digest: `.`, `/`, a digit, a capital or a small letter
abbrev pub is_letter : ℕ → Bool
is_letter octet = (nat_le 46 octet && nat_le octet 57) || ((nat_le 65 octet && nat_le octet 90) || (nat_le 97 octet && nat_le octet 122))

-- how many letters a digest has
abbrev pub letter_count : Method → ℕ
letter_count Sha256 = 43
letter_count Sha512 = 86

-- the most rounds that are made for a login (own choice; the algorithm has 1,000 to 999,999,999)
abbrev pub most_rounds : ℕ
most_rounds = ROUNDS_LIMIT

-- what stands before a place and behind it
abbrev pub cut_around : List ℕ → Option ℕ → Option (List ℕ × List ℕ)
cut_around octets None = None
cut_around octets (Some place) = Some (take place octets, drop (place + 1) octets)

-- the place of the first `$`
unfoldable pub first_dollar : List ℕ → Option ℕ
first_dollar octets = position (λ octet. octet == dollar) octets

-- what stands before the first `$` and behind it
abbrev pub cut : List ℕ → Option (List ℕ × List ℕ)
cut octets = cut_around octets (first_dollar octets)

-- the number of digits behind a number, while it is within the limit
abbrev pub number_behind : ℕ → List ℕ → Result ℕ SecretFault
number_behind number [] = Ok number
number_behind number (octet ∷ octets) =
    if not (nat_le 48 octet && nat_le octet 57) then Err Faults.Rounds
    else (if nat_lt most_rounds (10 * number + (octet - 48)) then Err Faults.TooManyRounds else number_behind (10 * number + (octet - 48)) octets)

-- the rounds that digits say: at least 1,000, as a number is written; the algorithm makes 1,000 of fewer, and then writes that
abbrev pub rounds_said : List ℕ → Result ℕ SecretFault
rounds_said digits =
    if starts_with nat_eq digits (48 ∷ []) then Err Faults.Rounds
    else elim (number_behind 0 digits) [ Ok rounds ↦ (if nat_lt rounds 1000 then Err Faults.Rounds else Ok rounds) | Err fault ↦ Err fault ]

-- a salt and a digest
abbrev pub with_letters : Method → Option ℕ → (salt hash : List ℕ) → Result Secret SecretFault
with_letters method rounds salt hash =
    if not (nat_le (length salt) 16 && list_all is_letter salt) then Err Faults.Salt
    else (if not ((length hash == letter_count method) && list_all is_letter hash) then Err Faults.Hash
    else Ok (Crypt record { method = method; rounds = rounds; salt = record { items = salt }; hash = record { items = hash } }))

-- a salt, `$` and a digest
abbrev pub with_salt : Method → Option ℕ → List ℕ → Result Secret SecretFault
with_salt method rounds octets = elim (cut octets) [ Some parts ↦ with_letters method rounds parts.0 parts.1 | None ↦ Err Faults.Salt ]

-- rounds, `$`, and what stands behind
abbrev pub with_rounds : Method → List ℕ → Result Secret SecretFault
with_rounds method octets = elim (cut octets) [
  | Some parts ↦ elim (rounds_said parts.0) [ Ok rounds ↦ with_salt method (Some rounds) parts.1 | Err fault ↦ Err fault ]
  | None ↦ Err Faults.Rounds
]

-- what stands behind `$5$` or `$6$`
abbrev pub with_method : Method → List ℕ → Result Secret SecretFault
with_method method octets =
    if starts_with nat_eq octets rounds_word then with_rounds method (drop 7 octets) else with_salt method None octets

-- letters, digits and `-`, which name a kind of secret (crypt(5))
abbrev pub is_kind_octet : ℕ → Bool
is_kind_octet octet = (octet == 45) || ((nat_le 48 octet && nat_le octet 57) || ((nat_le 65 octet && nat_le octet 90) || (nat_le 97 octet && nat_le octet 122)))

-- any number of them, and `$`
abbrev pub ends_kind : List ℕ → Bool
ends_kind [] = false
ends_kind (octet ∷ octets) = if octet == dollar then true else (is_kind_octet octet && ends_kind octets)

-- `$`, at least one of them, and `$`: a field in the form of crypt(5)
abbrev pub has_kind : List ℕ → Bool
has_kind [] = false
has_kind (octet ∷ []) = false
has_kind (octet ∷ next ∷ octets) = (octet == dollar) && (is_kind_octet next && ends_kind octets)

-- the most octets of a field, as of a password
abbrev pub most_field_octets : ℕ
most_field_octets = 255

-- what a field says: SHA-crypt behind its sign; no other kind is known, and taken as plain it would be another password; all else stands for itself
abbrev pub read : List ℕ → Result Secret SecretFault
read field =
    if nat_lt most_field_octets (length field) then Err Faults.TooLong
    else (if starts_with nat_eq field (sign Sha256) then with_method Sha256 (drop 3 field)
    else (if starts_with nat_eq field (sign Sha512) then with_method Sha512 (drop 3 field)
    else (if has_kind field then Err Faults.Kind else Ok (plain field))))

-- ---- how a secret is made

-- the SHA-crypt of a password, with this salt and so many rounds
abbrev pub made : Method → Option ℕ → (salt password : List ℕ) → Result Secret SecretFault
made method rounds salt password =
    if not (nat_le (length salt) 16 && list_all is_letter salt) then Err Faults.Salt
    else (if nat_lt (rounds_of rounds) 1000 then Err Faults.Rounds
    else (if nat_lt most_rounds (rounds_of rounds) then Err Faults.TooManyRounds
    else (let hash = hash_text method (rounds_of rounds) salt password in
    Ok (Crypt record { method = method; rounds = rounds; salt = record { items = salt }; hash = record { items = hash } }))))
