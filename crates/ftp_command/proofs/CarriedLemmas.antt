-- Each command that has a line has one that a control connection can carry.
use Rattle.std.proofs.Common.{◌≡◌, ℕ, ◌+◌, ◌*◌, ◌/◌, ◌%◌, ◌^◌, ◌<◌, ◌≤◌, List, [], ◌∷◌, ◌++◌, Bool, true, false, not, ◌==◌, ◌&&◌, Some, None, refl, ◌∙◌, arith, length, length-append, map}
use Rattle.std.specs.Prelude.{codes, decimal, count_by, cond, nat_le, nat_lt, if◌then◌else◌}
use Rattle.std.specs.Char.{digit_char}
use Rattle.std.specs.List.{list_all, join_with_byte, AllByRecursion}
use Rattle.std.specs.Str.Parse.{AllDigits}
use Rattle.std.proofs.lemmas.Bool.{leb-true}
use Rattle.std.proofs.lemmas.Bool.Decides.{nat_tests}
use Rattle.std.proofs.lemmas.List.Sums.{sum_by-cons}
use Rattle.ftp_command.proofs.PathLemmas.{path_plain, path_short}
use Rattle.ftp_path.specs.Path.{IsPathText, is_path_octet, text_limit}
use Rattle.ftp_command.specs.Argument.{IsPassword}
use Rattle.ftp_path.specs.Login.{is_login_octet}
use Rattle.ftp_command.specs.Command.{value_of, verb_of}
use Rattle.ftp_command.specs.Line.{IsStatedValue, IsLine, IsStated, IsTyped, IsTypedValue, IsWords, is_no_feed, line_of, spaced, tail}
use Rattle.ftp_command.specs.Verb.{letters}
use Rattle.ftp_command.specs.declared.command.Command.{Command}
use Rattle.ftp_command.specs.declared.value.Value.{Value}
use Rattle.ftp_command.specs.declared.value.Value.TheVariants as value
use Rattle.ftp_command.specs.declared.verb.Verb.{Verb}
use Rattle.ftp_command.proofs.VerbLemmas.{four_letters, is_wordy, every_passes}
use Rattle.ftp_settings.specs.declared.representation.Kind.TheVariants.{Ascii, Image}
use Rattle.ftp_settings.specs.declared.representation.Mode.TheVariants.{Stream, Block}
use Rattle.ftp_command.specs.declared.command.Passive.TheVariants.{Any, Ipv4, Ipv6, Only}
use Rattle.ftp_settings.specs.declared.representation.Structure.TheVariants.{File, Record}
use Rattle.ftp_endpoint.specs.Written.{numbers_text, six_of, six_text, hex, groups_of, address_text, extended_text, IsV4, IsTypedHost, IsTypedEndpoint}
use Rattle.ftp_endpoint.specs.declared.endpoint.Endpoint.{Endpoint}
use Rattle.ftp_endpoint.specs.declared.host.Host.{Host}
use Rattle.ftp_endpoint.specs.declared.host.Host.TheVariants.{V4, V6}
use Rattle.ftp_endpoint.proofs.NumberLemmas.{is_digit, digit_bounds}
use Rattle.ftp_endpoint.proofs.WrittenLemmas.{says_number}

both : (a b : Bool) → (a && b) ≡ true → (a ≡ true) × (b ≡ true)
both true b is = (refl, is)
both false b is = absurd (let e : false ≡ true = is in cc)

and_both : (a b : Bool) → a ≡ true → b ≡ true → (a && b) ≡ true
and_both a b one other = rw (one, other) refl

-- ---- texts without LF and CR, up to a length

abbrev pub is_plain : ℕ → Bool
is_plain c = not (c == 10) && not (c == 13)

-- how many octets a CR takes more
abbrev returns : Bool → ℕ
returns is = cond is 1 0

pub record Fits (most : ℕ) (text : List ℕ) : Type 0 where
  pub plain : AllByRecursion (λ c. is_plain c ≡ true) text
  pub short : length text ≤ most

pub fits_both : (m n : ℕ) (xs ys : List ℕ) → Fits m xs → Fits n ys → Fits (m + n) (xs ++ ys)
fits_both m n xs ys one other =
    record { plain = plain_both xs ys one.plain other.plain; short = omega (arith, length-append xs ys, one.short, other.short) }
  where
    plain_both : (xs ys : List ℕ) → AllByRecursion (λ c. is_plain c ≡ true) xs → AllByRecursion (λ c. is_plain c ≡ true) ys → AllByRecursion (λ c. is_plain c ≡ true) (xs ++ ys)
    plain_both [] ys one other = other
    plain_both (x ∷ xs) ys one other = (one.0, plain_both xs ys one.1 other)

pub fits_with : (n c : ℕ) (text : List ℕ) → is_plain c ≡ true → Fits n text → Fits (n + 1) (c ∷ text)
fits_with n c text is fits = record { plain = (is, fits.plain); short = omega (arith, fits.short) }

line_fits : (most : ℕ) (text : List ℕ) → most ≤ 1022 → Fits most text → IsLine text
line_fits most text small fits =
    (no_feeds text fits.plain, (let none = no_returns text fits.plain in omega (arith, none, fits.short, small)))
  where
    no_feeds : (text : List ℕ) → AllByRecursion (λ c. is_plain c ≡ true) text → list_all is_no_feed text ≡ true
    no_feeds [] all = refl
    no_feeds (c ∷ text) all = and_both (is_no_feed c) (list_all is_no_feed text) (both (not (c == 10)) (not (c == 13)) all.0).0 (no_feeds text all.1)

    not_return : (b : Bool) → not b ≡ true → returns b ≡ 0
    not_return false is = refl
    not_return true is = absurd (let e : false ≡ true = is in cc)

    no_returns : (text : List ℕ) → AllByRecursion (λ c. is_plain c ≡ true) text → count_by (λ c. c == 13) text ≡ 0
    no_returns [] all = refl
    no_returns (c ∷ text) all =
        let one = not_return (c == 13) (both (not (c == 10)) (not (c == 13)) all.0).1 in
        let rest = no_returns text all.1 in
        sum_by-cons (λ (o : ℕ). cond (o == 13) 1 0) c text ∙ (λ i. one i + rest i)

-- ---- numbers

pub digit_plain : (c : ℕ) → 48 ≤ c → is_plain c ≡ true
digit_plain c low = grind (arith, nat_tests)

pub digits_plain : (digits : List ℕ) → AllDigits 10 digits → AllByRecursion (λ c. is_plain c ≡ true) digits
digits_plain [] all = tt
digits_plain (c ∷ digits) all = (digit_plain c (digit_bounds c (is_digit c all.0)).0, digits_plain digits all.1)

pub decimal_fits : (n : ℕ) → n < 10 ^ 18 → Fits 18 (decimal n)
decimal_fits n small = let says = says_number n small in record { plain = digits_plain (decimal n) says.0.0.1; short = says.0.1 }

octet_fits : (n : ℕ) → n < 256 → Fits 18 (decimal n)
octet_fits n small = decimal_fits n (omega (arith, small))

-- ---- endpoints

four_fit : (separator : ℕ) (octets : List ℕ) → is_plain separator ≡ true → length octets ≡ 4 → AllByRecursion (λ c. c < 256) octets → Fits 80 (numbers_text separator octets)
four_fit s (a ∷ b ∷ c ∷ d ∷ []) plain len small =
    let last = fits_with 18 s (decimal d) plain (octet_fits d small.1.1.1.0) in
    let third = fits_with 37 s (decimal c ++ s ∷ decimal d) plain (fits_both 18 19 (decimal c) (s ∷ decimal d) (octet_fits c small.1.1.0) last) in
    let second = fits_with 56 s (decimal b ++ s ∷ (decimal c ++ s ∷ decimal d)) plain (fits_both 18 38 (decimal b) (s ∷ (decimal c ++ s ∷ decimal d)) (octet_fits b small.1.0) third) in
    let all = fits_both 18 57 (decimal a) (s ∷ (decimal b ++ s ∷ (decimal c ++ s ∷ decimal d))) (octet_fits a small.0) second in
    record { plain = all.plain; short = omega (arith, all.short) }
four_fit s [] plain len small = absurd (omega (arith, len))
four_fit s (a ∷ []) plain len small = absurd (omega (arith, len))
four_fit s (a ∷ b ∷ []) plain len small = absurd (omega (arith, len))
four_fit s (a ∷ b ∷ c ∷ []) plain len small = absurd (omega (arith, len))
four_fit s (a ∷ b ∷ c ∷ d ∷ e ∷ octets) plain len small = absurd (omega (arith, len))

pub six_fits : (host : Host) (port : ℕ) → IsV4 host → IsTypedHost host → port < 65536 → Fits 200 (six_of host port)
six_fits (V4 octets) port v4 typed small =
    let low = fits_with 18 44 (decimal (port % 256)) refl (octet_fits (port % 256) (omega arith)) in
    let high = fits_with 37 44 (decimal (port / 256) ++ 44 ∷ decimal (port % 256)) refl (fits_both 18 19 (decimal (port / 256)) (44 ∷ decimal (port % 256)) (octet_fits (port / 256) (omega (arith, small))) low) in
    let all = fits_both 80 38 (numbers_text 44 octets) (44 ∷ (decimal (port / 256) ++ 44 ∷ decimal (port % 256))) (four_fit 44 octets refl typed.0 typed.1) high in
    record { plain = all.plain; short = omega (arith, all.short) }
six_fits (V6 octets) port v4 typed small = absurd v4

char_plain : (d : ℕ) → is_plain (digit_char d) ≡ true
char_plain d = digit_plain (digit_char d) (least d)
  where
    least : (d : ℕ) → 48 ≤ digit_char d
    least d = grind (arith, nat_tests)

if_fits : (b : Bool) (n : ℕ) (xs ys : List ℕ) → Fits n xs → Fits n ys → Fits n (if b then xs else ys)
if_fits true n xs ys one other = one
if_fits false n xs ys one other = other

hex_fits : (n : ℕ) → Fits 4 (hex n)
hex_fits n =
    let four : List ℕ = digit_char (n / 4096) ∷ digit_char (n / 256 % 16) ∷ digit_char (n / 16 % 16) ∷ digit_char (n % 16) ∷ [] in
    let three : List ℕ = digit_char (n / 256) ∷ digit_char (n / 16 % 16) ∷ digit_char (n % 16) ∷ [] in
    let two : List ℕ = digit_char (n / 16) ∷ digit_char (n % 16) ∷ [] in
    let low : List ℕ = if nat_lt n 4096 then three else four in
    let middle : List ℕ = if nat_lt n 256 then two else low in
    let last : Fits 4 four = record { plain = (char_plain (n / 4096), (char_plain (n / 256 % 16), (char_plain (n / 16 % 16), (char_plain (n % 16), tt)))); short = omega arith } in
    let third : Fits 4 three = record { plain = (char_plain (n / 256), (char_plain (n / 16 % 16), (char_plain (n % 16), tt))); short = omega arith } in
    let second : Fits 4 two = record { plain = (char_plain (n / 16), (char_plain (n % 16), tt)); short = omega arith } in
    let first : Fits 4 (digit_char n ∷ []) = record { plain = (char_plain n, tt); short = omega arith } in
    if_fits (nat_lt n 16) 4 (digit_char n ∷ []) middle first (if_fits (nat_lt n 256) 4 two low second (if_fits (nat_lt n 4096) 4 three four third last))

groups_fit : (groups : List ℕ) → Fits (5 * length groups) (join_with_byte 58 (map hex groups))
groups_fit [] = record { plain = tt; short = omega arith }
groups_fit (g ∷ []) = let one = hex_fits g in record { plain = one.plain; short = omega (arith, one.short) }
groups_fit (g ∷ h ∷ groups) =
    let rest = groups_fit (h ∷ groups) in
    let behind = fits_with (5 * length (h ∷ groups)) 58 (join_with_byte 58 (map hex (h ∷ groups))) refl rest in
    let all = fits_both 4 (5 * length (h ∷ groups) + 1) (hex g) (58 ∷ join_with_byte 58 (map hex (h ∷ groups))) (hex_fits g) behind in
    record { plain = all.plain; short = omega (arith, all.short) }

fewer_groups : (octets : List ℕ) → length (groups_of octets) ≤ length octets
fewer_groups [] = omega arith
fewer_groups (a ∷ []) = omega arith
fewer_groups (a ∷ b ∷ octets) = omega (arith, fewer_groups octets)

address_fits : (host : Host) → IsTypedHost host → Fits 100 (address_text host)
address_fits (V4 octets) typed =
    let four = four_fit 46 octets refl typed.0 typed.1 in
    record { plain = (refl, (refl, (refl, four.plain))); short = omega (arith, four.short) }
address_fits (V6 octets) typed =
    let groups = groups_fit (groups_of octets) in
    record { plain = (refl, (refl, (refl, groups.plain))); short = omega (arith, groups.short, fewer_groups octets, typed.0) }

extended_fits : (endpoint : Endpoint) → IsTypedEndpoint endpoint → Fits 200 (extended_text endpoint)
extended_fits endpoint typed =
    let bar : Fits 1 (codes "|") = record { plain = (refl, tt); short = omega arith } in
    let port = decimal_fits endpoint.port (omega (arith, typed.1)) in
    let closed = fits_both 18 1 (decimal endpoint.port) (codes "|") port bar in
    let behind = fits_both 1 19 (codes "|") (decimal endpoint.port ++ codes "|") bar closed in
    let all = fits_both 100 20 (address_text endpoint.host) (codes "|" ++ (decimal endpoint.port ++ codes "|")) (address_fits endpoint.host typed.0) behind in
    record { plain = all.plain; short = omega (arith, all.short) }

-- ---- texts of arguments

octet_plain : (c : ℕ) → is_path_octet c ≡ true → is_plain c ≡ true
octet_plain c is = grind (arith, nat_tests)

name_plain : (c : ℕ) → is_login_octet c ≡ true → is_plain c ≡ true
name_plain c is =
    let parts = both (not (c == 0) && not (c == 10)) (not (c == 13)) is in
    let first = both (not (c == 0)) (not (c == 10)) parts.0 in
    and_both (not (c == 10)) (not (c == 13)) first.1 parts.1

pub all_plain : (p : ℕ → Bool) → ((c : ℕ) → p c ≡ true → is_plain c ≡ true) → (text : List ℕ) → list_all p text ≡ true → AllByRecursion (λ c. is_plain c ≡ true) text
all_plain p gives [] is = tt
all_plain p gives (c ∷ text) is = let parts = both (p c) (list_all p text) is in (gives c parts.0, all_plain p gives text parts.1)

pub path_fits : (text : List ℕ) → IsPathText text → Fits text_limit text
path_fits text is = record { plain = all_plain is_path_octet octet_plain text (path_plain text is); short = path_short text is }

password_fits : (text : List ℕ) → IsPassword text → Fits 255 text
password_fits text is = record { plain = all_plain is_login_octet name_plain text is.1; short = is.0 }

spaced_fits : (n : ℕ) (text : List ℕ) → Fits n text → Fits (n + 1) (spaced text)
spaced_fits n [] fits = record { plain = tt; short = omega arith }
spaced_fits n (c ∷ text) fits = record { plain = (refl, fits.plain); short = omega (arith, fits.short) }

-- a verb of four letters or three, and what stands behind it
abbrev pub IsWord : List ℕ → Type 0
IsWord verb = (list_all is_plain verb ≡ true) × (length verb ≤ 4)

verb_fits : (verb : List ℕ) → IsWord verb → Fits 4 verb
verb_fits verb is = record { plain = all_plain is_plain (λ c plain. plain) verb is.0; short = is.1 }

behind_verb : (verb rest : List ℕ) (n : ℕ) → IsWord verb → Fits n rest → n ≤ 1018 → IsLine (verb ++ rest)
behind_verb verb rest n is fits small = line_fits (4 + n) (verb ++ rest) (omega (arith, small)) (fits_both 4 n verb rest (verb_fits verb is) fits)

alone_line : (verb : List ℕ) → IsWord verb → IsLine (verb ++ [])
alone_line verb is = behind_verb verb [] 0 is (record { plain = tt; short = omega arith }) (omega arith)

path_line : (verb value : List ℕ) → IsWord verb → IsPathText value → IsLine (verb ++ spaced value)
path_line verb value is path = behind_verb verb (spaced value) (text_limit + 1) is (spaced_fits text_limit value (path_fits value path)) (omega arith)

password_line : (verb value : List ℕ) → IsWord verb → IsPassword value → IsLine (verb ++ spaced value)
password_line verb value is word = behind_verb verb (spaced value) 256 is (spaced_fits 255 value (password_fits value word)) (omega arith)

plain_line : (verb rest : List ℕ) → IsWord verb → list_all is_plain rest ≡ true → length rest ≤ 4 → IsLine (verb ++ rest)
plain_line verb rest is plain short =
    behind_verb verb rest 4 is (record { plain = all_plain is_plain (λ c here. here) rest plain; short = short }) (omega arith)

words_line : (verb words : List ℕ) → AllByRecursion (λ c. is_plain c ≡ true) verb → length verb ≡ 4 → IsWords words → IsLine (verb ++ spaced words)
words_line verb [] plain four is = absurd (omega (arith, is.0))
words_line verb (c ∷ words) plain four is = (
  no_feeds verb (32 ∷ c ∷ words) plain (and_both (is_no_feed 32) (list_all is_no_feed (c ∷ words)) refl is.2),
  (let count = counted verb (32 ∷ c ∷ words) plain in let one = sum_by-cons (λ (o : ℕ). cond (o == 13) 1 0) 32 (c ∷ words) in
      omega (arith, count, one, length-append verb (32 ∷ c ∷ words), four, is.3)),
)
  where
    no_feeds : (xs ys : List ℕ) → AllByRecursion (λ c. is_plain c ≡ true) xs → list_all is_no_feed ys ≡ true → list_all is_no_feed (xs ++ ys) ≡ true
    no_feeds [] ys all rest = rest
    no_feeds (x ∷ xs) ys all rest = and_both (is_no_feed x) (list_all is_no_feed (xs ++ ys)) (both (not (x == 10)) (not (x == 13)) all.0).0 (no_feeds xs ys all.1 rest)

    not_return : (b : Bool) → not b ≡ true → returns b ≡ 0
    not_return false is = refl
    not_return true is = absurd (let e : false ≡ true = is in cc)

    counted : (xs ys : List ℕ) → AllByRecursion (λ c. is_plain c ≡ true) xs → count_by (λ c. c == 13) (xs ++ ys) ≡ count_by (λ c. c == 13) ys
    counted [] ys all = refl
    counted (x ∷ xs) ys all =
        let one = not_return (x == 13) (both (not (x == 10)) (not (x == 13)) all.0).1 in
        let rest = counted xs ys all.1 in
        let same : returns (x == 13) + count_by (λ c. c == 13) (xs ++ ys) ≡ count_by (λ c. c == 13) ys = omega (arith, one, rest) in
        sum_by-cons (λ (o : ℕ). cond (o == 13) 1 0) x (xs ++ ys) ∙ same

-- ---- a row a shape

-- the letters of each verb are such a word
pub word_of : (v : Verb) → IsWord (letters v)
word_of v = (every_passes (λ v. list_all is_plain (letters v)) refl v, leb-true (length (letters v)) 4 (every_passes (λ v. nat_le (length (letters v)) 4) refl v))

pub value_line : (verb : List ℕ) (x : Value (List ℕ)) → IsWord verb → (is_wordy x ≡ true → length verb ≡ 4) → IsTypedValue x → IsStatedValue x → IsLine (verb ++ tail x)
value_line verb (value.Name x) word four typed is = password_line verb x word is.1
value_line verb (value.Password x) word four typed is = password_line verb x word is
value_line verb (value.Words x) word four typed is = words_line verb x (verb_fits verb word).plain (four refl) is
value_line verb (value.WordsOrNone None) word four typed is = alone_line verb word
value_line verb (value.WordsOrNone (Some x)) word four typed is = words_line verb x (verb_fits verb word).plain (four refl) is
value_line verb (value.Path x) word four typed is = path_line verb x word is
value_line verb (value.PathOrNone None) word four typed is = alone_line verb word
value_line verb (value.PathOrNone (Some x)) word four typed is = path_line verb x word is
value_line verb (value.Listed None) word four typed is = alone_line verb word
value_line verb (value.Listed (Some x)) word four typed is = path_line verb x word is.0
value_line verb value.Nothing word four typed is = alone_line verb word
value_line verb (value.Six x) word four typed is =
    let six = six_fits x.host x.port is typed.0 typed.1 in
    behind_verb verb (codes " " ++ six_text x) 201 word (record { plain = (refl, six.plain); short = omega (arith, six.short) }) (omega arith)
value_line verb (value.Extended x) word four typed is =
    let all = extended_fits x typed in
    behind_verb verb (codes " " ++ extended_text x) 201 word (record { plain = (refl, all.plain); short = omega (arith, all.short) }) (omega arith)
value_line verb (value.Family Any) word four typed is = alone_line verb word
value_line verb (value.Family Ipv4) word four typed is = plain_line verb (codes " 1") word refl (omega arith)
value_line verb (value.Family Ipv6) word four typed is = plain_line verb (codes " 2") word refl (omega arith)
value_line verb (value.Family Only) word four typed is = plain_line verb (codes " ALL") word refl (omega arith)
value_line verb (value.Kind Ascii) word four typed is = plain_line verb (codes " A") word refl (omega arith)
value_line verb (value.Kind Image) word four typed is = plain_line verb (codes " I") word refl (omega arith)
value_line verb (value.Structure File) word four typed is = plain_line verb (codes " F") word refl (omega arith)
value_line verb (value.Structure Record) word four typed is = plain_line verb (codes " R") word refl (omega arith)
value_line verb (value.Mode Stream) word four typed is = plain_line verb (codes " S") word refl (omega arith)
value_line verb (value.Mode Block) word four typed is = plain_line verb (codes " B") word refl (omega arith)
value_line verb (value.Number n) word four typed is =
    let one = decimal_fits n is in
    behind_verb verb (codes " " ++ decimal n) 19 word (record { plain = (refl, one.plain); short = omega (arith, one.short) }) (omega arith)
value_line verb (value.Sizes octets None) word four typed is =
    let one = fits_both 18 0 (decimal octets) [] (decimal_fits octets is.0) (record { plain = tt; short = omega arith }) in
    behind_verb verb (codes " " ++ (decimal octets ++ [])) 19 word (record { plain = (refl, one.plain); short = omega (arith, one.short) }) (omega arith)
value_line verb (value.Sizes octets (Some longest)) word four typed is =
    let two = decimal_fits longest is.1 in
    let more : Fits 21 (codes " R " ++ decimal longest) = record { plain = (refl, (refl, (refl, two.plain))); short = omega (arith, two.short) } in
    let all = fits_both 18 21 (decimal octets) (codes " R " ++ decimal longest) (decimal_fits octets is.0) more in
    behind_verb verb (codes " " ++ (decimal octets ++ (codes " R " ++ decimal longest))) 40 word (record { plain = (refl, all.plain); short = omega (arith, all.short) }) (omega arith)

pub carried : (said : Command (List ℕ)) → IsTyped said → IsStated said → IsLine (line_of said)
carried said typed is =
    value_line (letters (verb_of said)) (value_of said) (word_of (verb_of said)) (λ words. (four_letters said words).0) typed is
