-- A line within the limit says a command that is written in at most twice as many octets.
use Rattle.std.proofs.Common.{◌≡◌, ℕ, ◌+◌, ◌*◌, ◌<◌, ◌≤◌, true, List, [], ◌∷◌, ◌++◌, Option, Some, None, refl, sym, ap, subst, arith, length, length-append, map}
use Rattle.std.specs.Prelude.{codes, decimal, nat_lt}
use Rattle.std.specs.List.{join_with_byte, position_or_len}
use Rattle.std.proofs.lemmas.Bool.{cond_both}
use Rattle.std.proofs.lemmas.List.{length-drop}
use Rattle.ftp_command.proofs.CarriedLemmas.{IsWord, decimal_fits, value_line, word_of}
use Rattle.ftp_command.proofs.PathLemmas.{path_short}
use Rattle.ftp_command.proofs.StatedLemmas.{is_cut}
use Rattle.ftp_command.specs.Argument.{SaysSizes, argument, is_space, trimmed}
use Rattle.ftp_command.proofs.VerbLemmas.{four_letters, is_wordy}
use Rattle.ftp_command.specs.Command.{Says, SaysValue, value_of, verb_of}
use Rattle.ftp_command.specs.Line.{IfShort, IsShort, IsStatedValue, IsTypedValue, line_of, spaced, tail}
use Rattle.ftp_command.specs.Verb.{letters}
use Rattle.ftp_command.specs.declared.command.Command.{Command}
use Rattle.ftp_command.specs.declared.value.Value.{Value}
use Rattle.ftp_command.specs.declared.value.Value.TheVariants as value
use Rattle.ftp_endpoint.proofs.NumberLemmas.{value_lt}
use Rattle.ftp_endpoint.specs.Endpoint.{BeginsWith, SaysSix}
use Rattle.ftp_endpoint.specs.Host.{SaysHost, octets_of}
use Rattle.ftp_endpoint.specs.Number.{SaysNumber, SaysOctet, comma, point}
use Rattle.ftp_endpoint.specs.Written.{IsTypedEndpoint, IsTypedHost, IsV4, extended_text, groups_of, hex}
use Rattle.ftp_endpoint.specs.declared.endpoint.Endpoint.{Endpoint}
use Rattle.ftp_endpoint.specs.declared.host.Host.{Host}
use Rattle.ftp_endpoint.specs.declared.host.Host.TheVariants.{V4, V6}
use Rattle.ftp_path.specs.Path.{IsPathText}
use Rattle.ftp_server_model.specs.Held.{waiting_len}
use Rattle.ftp_server_model.specs.Machine.{IsLineRead}
use Rattle.ftp_server_model.specs.declared.heard.HeardLine.{HeardLine}
use Rattle.ftp_server_model.specs.declared.heard.HeardLine.TheVariants.{TooLong, Bad, Asks}

-- ---- words

argument_short : (line : List ℕ) → length (argument line) ≤ length line
argument_short line = omega (arith, length-drop (position_or_len is_space line + 1) line)

spaced_short : (text : List ℕ) → length (spaced text) ≤ length text + 1
spaced_short [] = omega arith
spaced_short (c ∷ text) = omega arith

words_short : (verb line value : List ℕ) → length verb ≡ 4 → length line ≤ 1024 → trimmed (argument line) ≡ value → length (verb ++ spaced value) ≤ 2048
words_short verb line value four short is =
    omega (arith, length-append verb (spaced value), four, spaced_short value, ap length is, (is_cut (argument line)).length_le, argument_short line, short)

-- ---- numbers

number_short : (text : List ℕ) (n : ℕ) → SaysNumber text n → IsShort n
number_short text n says = subst IsShort (sym says.1) (value_lt text says.0.0.1 says.0.1)

sizes_short : (text : List ℕ) (m : ℕ) (o : Option ℕ) → SaysSizes text m o → IsShort m × IfShort o
sizes_short text m None says = (number_short _ m says.0, tt)
sizes_short text m (Some n) says = (number_short _ m says.0, number_short says.1.digits n says.1.number)

-- ---- endpoints

octet_small : (text : List ℕ) (n : ℕ) → SaysOctet text n → n < 256
octet_small text n says = omega (arith, says.0.2, says.1)

four_typed : (s : ℕ) (text rest : List ℕ) (a b c d : ℕ) → BeginsWith s text (a ∷ b ∷ c ∷ d ∷ []) rest → IsTypedHost (V4 (a ∷ b ∷ c ∷ d ∷ []))
four_typed s text rest a b c d says =
    let second = says.1.2 in
    let third = second.1.2 in
    let last = third.1.2 in
    (refl, (octet_small _ a says.0, (octet_small _ b second.0, (octet_small _ c third.0, (octet_small _ d last.0, tt)))))

six_typed : (s : ℕ) (text rest : List ℕ) (a b c d e f : ℕ) → BeginsWith s text (a ∷ b ∷ c ∷ d ∷ e ∷ f ∷ []) rest → IsTypedEndpoint (record { host = V4 (a ∷ b ∷ c ∷ d ∷ []); port = 256 * e + f })
six_typed s text rest a b c d e f says =
    let second = says.1.2 in
    let third = second.1.2 in
    let fourth = third.1.2 in
    let fifth = fourth.1.2 in
    let last = fifth.1.2 in (
      (refl, (octet_small _ a says.0, (octet_small _ b second.0, (octet_small _ c third.0, (octet_small _ d fourth.0, tt))))),
      omega (arith, octet_small _ e fifth.0, octet_small _ f last.0),
    )

port_typed : (text : List ℕ) (endpoint : Endpoint) → SaysSix text endpoint → IsTypedEndpoint endpoint × IsV4 endpoint.host
port_typed text endpoint says =
    let P : Endpoint → Type 0 = λ e. IsTypedEndpoint e × IsV4 e.host in
    subst P (sym says.value) (six_typed comma text [] says.h1 says.h2 says.h3 says.h4 says.p1 says.p2 says.numbers, tt)

-- a host of IPv6, by the number of its groups
hex_short : (n : ℕ) → length (hex n) ≤ 4
hex_short n =
    let P : List ℕ → Type 0 = λ t. length t ≤ 4 in
    cond_both (nat_lt n 16) _ _ P (λ is. omega arith)
    (λ is. cond_both (nat_lt n 256) _ _ P (λ is. omega arith) (λ is. cond_both (nat_lt n 4096) _ _ P (λ is. omega arith) (λ is. omega arith)))

groups_short : (groups : List ℕ) → length (join_with_byte 58 (map hex groups)) ≤ 5 * length groups
groups_short [] = omega arith
groups_short (g ∷ []) = omega (arith, hex_short g)
groups_short (g ∷ h ∷ groups) =
    omega (arith, length-append (hex g) (58 ∷ join_with_byte 58 (map hex (h ∷ groups))), hex_short g, groups_short (h ∷ groups))

fewer_groups : (octets : List ℕ) → length (groups_of octets) ≤ length octets
fewer_groups [] = omega arith
fewer_groups (a ∷ []) = omega arith
fewer_groups (a ∷ b ∷ octets) = omega (arith, fewer_groups octets)

octets_many : (groups : List ℕ) → length (octets_of groups) ≡ 2 * length groups
octets_many [] = refl
octets_many (g ∷ groups) = omega (arith, octets_many groups)

six_long : (octets : List ℕ) (port : ℕ) → length octets ≡ 16 → port < 65536 → length (extended_text (record { host = V6 octets; port = port })) ≤ 200
six_long octets port sixteen small =
    let groups : List ℕ = join_with_byte 58 (map hex (groups_of octets)) in
    let rest : List ℕ = codes "|" ++ (decimal port ++ codes "|") in
    omega (
      arith,
      length-append (codes "|2|" ++ groups) rest,
      length-append (codes "|2|") groups,
      length-append (codes "|") (decimal port ++ codes "|"),
      length-append (decimal port) (codes "|"),
      groups_short (groups_of octets),
      fewer_groups octets,
      sixteen,
      (decimal_fits port (omega (arith, small))).short,
    )

host_short : (verb : List ℕ) → IsWord verb → (proto : ℕ) (address : List ℕ) (host : Host) (port : ℕ) → SaysHost proto address host → port < 65536 → 1 ≤ port
    → length (verb ++ tail (value.Extended (record { host = host; port = port }))) ≤ 2048
host_short verb word proto address (V4 octets) port says small some =
    let v4 = says.1 in
    let P : List ℕ → Type 0 = λ os. IsTypedHost (V4 os) in
    let typed : IsTypedHost (V4 octets) = subst P (sym v4.value) (four_typed point address [] v4.a v4.b v4.c v4.d v4.numbers) in
    let none : is_wordy (value.Extended (record { host = V4 octets; port = port })) ≡ true → length verb ≡ 4 = λ words. absurd (cc) in
    omega (arith, (value_line verb (value.Extended (record { host = V4 octets; port = port })) word none (typed, small) some).1)
host_short verb word proto address (V6 octets) port says small some =
    let v6 = says.1 in
    let text : List ℕ = extended_text (record { host = V6 octets; port = port }) in
    let sixteen : length octets ≡ 16 = omega (arith, ap length v6.value, octets_many v6.groups, v6.eight) in
    omega (arith, length-append verb (codes " " ++ text), length-append (codes " ") text, six_long octets port sixteen small, word.1)

-- ---- all values

path_said : (verb value : List ℕ) → length verb ≤ 4 → IsPathText value → length (verb ++ spaced value) ≤ 2048
path_said verb value four is = omega (arith, length-append verb (spaced value), spaced_short value, path_short value is, four)

module _ (verb line : List ℕ) (word : IsWord verb) (short : length line ≤ 1024) where
  -- a value that has a line
  by_line : (x : Value (List ℕ)) → (is_wordy x ≡ true → length verb ≡ 4) → IsTypedValue x → IsStatedValue x → length (verb ++ tail x) ≤ 2048
  by_line x four typed stated = omega (arith, (value_line verb x word four typed stated).1)

  pub value_short : (x : Value (List ℕ)) → (is_wordy x ≡ true → length verb ≡ 4) → SaysValue (argument line) x → length (verb ++ tail x) ≤ 2048
  value_short (value.Name text) four says = by_line (value.Name text) four tt says.1
  value_short (value.Password text) four says = by_line (value.Password text) four tt says.1
  value_short (value.Words text) four says = words_short verb line text (four refl) short says.0
  value_short (value.WordsOrNone None) four says = by_line (value.WordsOrNone None) four tt tt
  value_short (value.WordsOrNone (Some text)) four says = words_short verb line text (four refl) short says.0
  value_short (value.Path text) four says = by_line (value.Path text) four tt says.1
  value_short (value.PathOrNone None) four says = by_line (value.PathOrNone None) four tt tt
  value_short (value.PathOrNone (Some text)) four says = by_line (value.PathOrNone (Some text)) four tt says.1
  value_short (value.Listed None) four says = by_line (value.Listed None) four tt tt
  value_short (value.Listed (Some text)) four says = path_said verb text word.1 says.1
  value_short value.Nothing four says = by_line value.Nothing four tt tt
  value_short (value.Six endpoint) four says =
      let both = port_typed _ endpoint says in by_line (value.Six endpoint) four both.0 both.1
  value_short (value.Extended endpoint) four says =
      let port = says.shape.ends.number in
      host_short verb word says.proto says.address endpoint.host endpoint.port says.host (omega (arith, port.0.2, port.1)) (omega (arith, port.0.1, port.1))
  value_short (value.Family family) four says = by_line (value.Family family) four tt tt
  value_short (value.Kind kind) four says = by_line (value.Kind kind) four tt tt
  value_short (value.Structure structure) four says = by_line (value.Structure structure) four tt tt
  value_short (value.Mode mode) four says = by_line (value.Mode mode) four tt tt
  value_short (value.Number number) four says = by_line (value.Number number) four tt (number_short _ number says)
  value_short (value.Sizes octets longest) four says =
      by_line (value.Sizes octets longest) four tt (sizes_short (trimmed (argument line)) octets longest says)

said_short : (line : List ℕ) (c : Command (List ℕ)) → length line ≤ 1024 → Says line c → length (line_of c) ≤ 2048
said_short line c short says =
    value_short (letters (verb_of c)) line (word_of (verb_of c)) short (value_of c) (λ words. (four_letters c words).0) says.1

-- a line as it is heard, if it waits
pub heard_short : (line : List ℕ) (heard : HeardLine (List ℕ)) → length line ≤ 1024 → IsLineRead line heard → waiting_len (Some heard) ≤ 2048
heard_short line TooLong short read = omega arith
heard_short line (Bad fault) short read = omega arith
heard_short line (Asks c) short read = said_short line c short read
