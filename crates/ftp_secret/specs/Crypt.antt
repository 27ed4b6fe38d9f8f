-- The text that a password, a salt and a number of rounds give (Ulrich Drepper, "Unix crypt using SHA-256 and SHA-512", version 0.6).
-- Texts are lists of octets; a step is a step of that document's algorithm.
use Rattle.std.specs.Prelude.{ℕ, zero, suc, ◌+◌, ◌*◌, ◌/◌, ◌%◌, ◌^◌, ◌==◌, List, [], ◌∷◌, ◌++◌, length, take, nat_lt, slice_index, if◌then◌else◌}
use Rattle.sha2.specs.Sha256.{sha256}
use Rattle.sha2.specs.Sha512.{sha512}
use Rattle.ftp_secret.specs.declared.method.Method.{Method}
use Rattle.ftp_secret.specs.declared.method.Method.TheVariants.{Sha256, Sha512}

-- the digest of octets
abbrev pub digest : Method → List ℕ → List ℕ
digest Sha256 octets = sha256 octets
digest Sha512 octets = sha512 octets

-- octets, so many times
unfoldable pub repeated : List ℕ → ℕ → List ℕ
repeated octets zero = []
repeated octets (suc count) = repeated octets count ++ octets

-- so many octets of a digest that begins anew at its end: whole as often as it fits, and then its first octets (steps 9 and 10, 16, 20)
abbrev pub cycled : List ℕ → ℕ → List ℕ
cycled octets count = repeated octets (count / length octets) ++ take (count % length octets) octets

-- digest B, of the password, the salt and the password (steps 4 to 8)
abbrev pub digest_b : Method → (password salt : List ℕ) → List ℕ
digest_b method password salt = digest method (password ++ salt ++ password)

-- for each binary digit of a number, from the lowest to the highest 1: digest B for a 1, the password for a 0 (step 11); at most so many digits, and a number
-- has no more of them than it counts
unfoldable pub by_digits : (b password : List ℕ) → (most number : ℕ) → List ℕ
by_digits b password zero number = []
by_digits b password (suc most) number =
    if number == 0 then [] else (if number % 2 == 1 then b else password) ++ by_digits b password most (number / 2)

-- digest A: the password, the salt, and of digest B as much as the password is long, and as its length says (steps 1 to 12)
abbrev pub digest_a : Method → (password salt : List ℕ) → List ℕ
digest_a method password salt =
    let b = digest_b method password salt in
    digest method (password ++ salt ++ cycled b (length password) ++ by_digits b password (length password) (length password))

-- the sequence P, as long as the password: of the digest of the password, as many times as it has octets (steps 13 to 16)
abbrev pub digest_p : Method → (password : List ℕ) → List ℕ
digest_p method password = digest method (repeated password (length password))

abbrev pub sequence_p : Method → (password : List ℕ) → List ℕ
sequence_p method password = cycled (digest_p method password) (length password)

-- the sequence S, as long as the salt: of the digest of the salt, 16 times and as often as the first octet of digest A says (steps 17 to 20)
abbrev pub digest_s : Method → (a salt : List ℕ) → List ℕ
digest_s method a salt = digest method (repeated salt (16 + slice_index a 0))

abbrev pub sequence_s : Method → (a salt : List ℕ) → List ℕ
sequence_s method a salt = cycled (digest_s method a salt) (length salt)

-- what the round of this number takes the digest of; `last` is the digest of the round before (step 21)
abbrev pub round : (p s : List ℕ) → (number : ℕ) → (last : List ℕ) → List ℕ
round p s number last =
    (if number % 2 == 1 then p else last)
    ++ (if number % 3 == 0 then [] else s)
    ++ (if number % 7 == 0 then [] else p)
    ++ (if number % 2 == 1 then last else p)

-- the digest after so many rounds, which begin with digest A and have the numbers 0, 1, .. (step 21)
unfoldable pub after : Method → (p s a : List ℕ) → (rounds : ℕ) → List ℕ
after method p s a zero = a
after method p s a (suc number) = digest method (round p s number (after method p s a number))

-- the digest C that is written at the end (steps 1 to 21)
abbrev pub digest_c : Method → (rounds : ℕ) → (salt password : List ℕ) → List ℕ
digest_c method rounds salt password =
    let a = digest_a method password salt in
    after method (sequence_p method password) (sequence_s method a salt) a rounds

-- a letter for six bits: `.`, `/`, the digits, the capitals, the small letters (step 22)
abbrev pub letter : ℕ → ℕ
letter bits = if nat_lt bits 12 then bits + 46 else (if nat_lt bits 38 then bits + 53 else bits + 59)

-- so many letters of a number, the lowest six bits first
abbrev pub letters_of_number : (count number : ℕ) → List ℕ
letters_of_number zero number = []
letters_of_number (suc count) number = letter (number % 64) ∷ letters_of_number count (number / 64)

-- three octets as one number, the first of them the highest
abbrev pub joined : (first second third : ℕ) → ℕ
joined first second third = first * 2 ^ 16 + second * 2 ^ 8 + third

-- the places of three octets of a digest that stand together
abbrev pub Group : Type 0
Group = ℕ × ℕ × ℕ

-- a place, the place a third of the digest behind it, and the one as far behind that; begun with the first, the second or the third of them
abbrev pub turned : (turn third place : ℕ) → Group
turned turn third place =
    if turn == 0 then (place, place + third, place + 2 * third)
    else (if turn == 1 then (place + third, place + 2 * third, place) else (place + 2 * third, place, place + third))

-- the groups, in the order in which they are written (step 22 has them as tables: `laws::groups_are_those`)
abbrev pub group : Method → ℕ → Group
group Sha256 place = turned (2 * place % 3) 10 place
group Sha512 place = turned (place % 3) 21 place

-- the four letters of a group
abbrev pub group_text : Method → (c : List ℕ) → (place : ℕ) → List ℕ
group_text method c place =
    let g = group method place in
    letters_of_number 4 (joined (slice_index c g.0) (slice_index c g.1) (slice_index c g.2))

-- those of so many groups, from the first on
unfoldable pub groups_text : Method → (c : List ℕ) → (count : ℕ) → List ℕ
groups_text method c zero = []
groups_text method c (suc place) = groups_text method c place ++ group_text method c place

-- a digest as letters: its whole groups, and what is left (step 22)
abbrev pub digest_text : Method → (c : List ℕ) → List ℕ
digest_text Sha256 c = groups_text Sha256 c 10 ++ letters_of_number 3 (joined 0 (slice_index c 31) (slice_index c 30))
digest_text Sha512 c = groups_text Sha512 c 21 ++ letters_of_number 2 (joined 0 0 (slice_index c 63))

-- the text behind the salt: what the algorithm gives for a password
abbrev pub hash_text : Method → (rounds : ℕ) → (salt password : List ℕ) → List ℕ
hash_text method rounds salt password = digest_text method (digest_c method rounds salt password)
