-- Whether a text is a number, an endpoint or a host, decided.
use Rattle.std.proofs.Common.{◌≡◌, ◌≢◌, ℕ, zero, suc, ◌+◌, ◌-◌, ◌*◌, ◌<◌, ◌≤◌, ◌⊎◌, inl, inr, List, [], ◌∷◌, ◌++◌, refl, sym, ap, subst, ◌∙◌, arith, length, length-append}
use Rattle.std.specs.Prelude.{not, replicate}
use Rattle.std.specs.Char.{digit_value, is_ascii_digit}
use Rattle.std.specs.Str.Parse.{AllDigits, IsNumeral, digits_value}
use Rattle.std.proofs.lemmas.List.{length-replicate}
use Rattle.ftp_endpoint.specs.Endpoint.{BeginsWith, SaysSix, IsDelimiter, HasShape}
use Rattle.ftp_endpoint.specs.Host.{SaysV4, IsGroup, front_hex, behind_hex, BeginsWithGroups, Written, SaysV6, octets_of, SaysHost, SaysExtended, IsOtherProtocol}
use Rattle.ftp_endpoint.specs.Number.{IsNumber, IsOctet, IsPort, SaysNumber, front_digits, behind_digits}
use Rattle.ftp_endpoint.specs.declared.endpoint.Endpoint.{Endpoint}
use Rattle.ftp_endpoint.specs.declared.host.Host.{Host}
use Rattle.ftp_endpoint.specs.declared.host.Host.TheVariants.{V4, V6}
use Rattle.ftp_server_model.proofs.Deciding.{Decided, yes_if, and_then, and_both, or_else, unless, never, is_true, at_most, same_number, same_text, some_number, some_cut}

-- ---- numbers

less : (n m : ℕ) → Decided (n < m)
less n m = yes_if (λ le. to n m le) (λ lt. from n m lt) (at_most (suc n) m)
  where
    to : (n m : ℕ) → suc n ≤ m → n < m
    to n m le = omega (arith, le)

    from : (n m : ℕ) → n < m → suc n ≤ m
    from n m lt = omega (arith, lt)

digits : (radix : ℕ) (text : List ℕ) → Decided (AllDigits radix text)
digits radix [] = inl tt
digits radix (c ∷ text) = and_then (less (digit_value c) radix) (digits radix text)

numeral : (radix : ℕ) (text : List ℕ) → Decided (IsNumeral radix text)
numeral radix text = and_then (less 0 (length text)) (digits radix text)

pub number : (text : List ℕ) → Decided (IsNumber text)
number text = and_then (numeral 10 text) (at_most (length text) 18)

octet : (text : List ℕ) → Decided (IsOctet text)
octet text = and_both (numeral 10 text) (at_most (length text) 3) (at_most (digits_value 10 text) 255)

port : (text : List ℕ) → Decided (IsPort text)
port text = and_both (number text) (at_most 1 (digits_value 10 text)) (at_most (digits_value 10 text) 65535)

-- a text that says some number
pub some_value : (text : List ℕ) → Decided ((n : ℕ) × SaysNumber text n)
some_value text = yes_if (λ is. (digits_value 10 text, (is, refl))) (λ some. some.1.0) (number text)

-- and this number
pub this_value : (text : List ℕ) (n : ℕ) → Decided (SaysNumber text n)
this_value text n = and_then (number text) (same_number n (digits_value 10 text))

-- ---- a row of numbers

-- a number and so many more, and then what passes a test
abbrev Numbers : (separator count : ℕ) → (List ℕ → Type 0) → List ℕ → Type 0
Numbers separator count Passes text =
    (n : ℕ) × (ns : List ℕ) × (length ns ≡ count) × (rest : List ℕ) × BeginsWith separator text (n ∷ ns) rest × Passes rest

-- behind a separator
abbrev NumbersBehind : (separator count : ℕ) → (List ℕ → Type 0) → List ℕ → Type 0
NumbersBehind separator count Passes behind = (next : List ℕ) × (behind ≡ separator ∷ next) × Numbers separator count Passes next

pub behind_separator : (separator : ℕ) (P : List ℕ → Type 0) → ((next : List ℕ) → Decided (P next)) → (behind : List ℕ)
    → Decided ((next : List ℕ) × (behind ≡ separator ∷ next) × P next)
behind_separator separator P decides [] = never (λ some. let e : [] ≡ separator ∷ some.0 = some.1 in cc)
behind_separator separator P decides (c ∷ next) =
    yes_if (λ both. (next, ap (λ o. o ∷ next) both.0, both.1)) (λ some. from some.0 some.1 some.2) (and_then (same_number c separator) (decides next))
  where
    from : (other : List ℕ) → c ∷ next ≡ separator ∷ other → P other → (c ≡ separator) × P next
    from other e p =
        let head : c ≡ separator = cc in
        let tail : other ≡ next = cc in
        (head, subst P tail p)

numbers : (separator count : ℕ) (Passes : List ℕ → Type 0) → ((rest : List ℕ) → Decided (Passes rest)) → (text : List ℕ) → Decided (Numbers separator count Passes text)
numbers separator zero Passes decides text =
    yes_if (λ both. (digits_value 10 (front_digits text), [], refl, behind_digits text, ((both.0, refl), refl), both.1))
    (λ some. from some.0 some.1 some.2 some.3 some.4 some.5) (and_then (octet (front_digits text)) (decides (behind_digits text)))
  where
    from : (n : ℕ) (ns : List ℕ) → length ns ≡ 0 → (rest : List ℕ) → BeginsWith separator text (n ∷ ns) rest → Passes rest → IsOctet (front_digits text) × Passes (behind_digits text)
    from n [] len rest begins passes = (begins.0.0, subst Passes (sym begins.1) passes)
    from n (m ∷ ns) len rest begins passes = absurd (omega (arith, len))
numbers separator (suc count) Passes decides text =
    yes_if (λ both. to both.0 both.1) (λ some. from some.0 some.1 some.2 some.3 some.4 some.5)
    (and_then (octet (front_digits text)) (behind_separator separator (Numbers separator count Passes) (numbers separator count Passes decides) (behind_digits text)))
  where
    to : IsOctet (front_digits text) → NumbersBehind separator count Passes (behind_digits text) → Numbers separator (suc count) Passes text
    to is (next, e, (m, ns, len, rest, begins, passes)) =
        (digits_value 10 (front_digits text), m ∷ ns, ap suc len, rest, ((is, refl), (next, e, begins)), passes)

    from : (n : ℕ) (ns : List ℕ) → length ns ≡ suc count → (rest : List ℕ) → BeginsWith separator text (n ∷ ns) rest → Passes rest
        → IsOctet (front_digits text) × NumbersBehind separator count Passes (behind_digits text)
    from n [] len rest begins passes = absurd (omega (arith, len))
    from n (m ∷ ns) len rest begins passes =
        let one : length ns ≡ count = omega (arith, len) in
        (begins.0.0, (begins.1.0, begins.1.1, (m, ns, one, rest, begins.1.2, passes)))

abbrev IsEnd : List ℕ → Type 0
IsEnd rest = rest ≡ []

at_end : (rest : List ℕ) → Decided (IsEnd rest)
at_end rest = same_text rest []

pub six : (text : List ℕ) → Decided ((endpoint : Endpoint) × SaysSix text endpoint)
six text = yes_if (λ some. to some.0 some.1 some.2 some.3 some.4 some.5) (λ some. from some.0 some.1) (numbers 44 5 IsEnd at_end text)
  where
    to : (n : ℕ) (ns : List ℕ) → length ns ≡ 5 → (rest : List ℕ) → BeginsWith 44 text (n ∷ ns) rest → rest ≡ [] → (endpoint : Endpoint) × SaysSix text endpoint
    to n (a ∷ b ∷ c ∷ d ∷ e ∷ []) len rest begins end = (
      record { host = V4 (n ∷ a ∷ b ∷ c ∷ []); port = 256 * d + e },
      record { h1 = n; h2 = a; h3 = b; h4 = c; p1 = d; p2 = e; numbers = subst (BeginsWith 44 text (n ∷ a ∷ b ∷ c ∷ d ∷ e ∷ [])) end begins; value = refl },
    )
    to n [] len rest begins end = absurd (omega (arith, len))
    to n (a ∷ []) len rest begins end = absurd (omega (arith, len))
    to n (a ∷ b ∷ []) len rest begins end = absurd (omega (arith, len))
    to n (a ∷ b ∷ c ∷ []) len rest begins end = absurd (omega (arith, len))
    to n (a ∷ b ∷ c ∷ d ∷ []) len rest begins end = absurd (omega (arith, len))
    to n (a ∷ b ∷ c ∷ d ∷ e ∷ f ∷ ns) len rest begins end = absurd (omega (arith, len))

    from : (endpoint : Endpoint) → SaysSix text endpoint → Numbers 44 5 IsEnd text
    from endpoint s = (s.h1, s.h2 ∷ s.h3 ∷ s.h4 ∷ s.p1 ∷ s.p2 ∷ [], refl, [], s.numbers, refl)

-- ---- hosts

v4 : (text : List ℕ) → Decided ((octets : List ℕ) × SaysV4 text octets)
v4 text = yes_if (λ some. to some.0 some.1 some.2 some.3 some.4 some.5) (λ some. from some.0 some.1) (numbers 46 3 IsEnd at_end text)
  where
    to : (n : ℕ) (ns : List ℕ) → length ns ≡ 3 → (rest : List ℕ) → BeginsWith 46 text (n ∷ ns) rest → rest ≡ [] → (octets : List ℕ) × SaysV4 text octets
    to n (a ∷ b ∷ c ∷ []) len rest begins end =
        (n ∷ a ∷ b ∷ c ∷ [], record { a = n; b = a; c = b; d = c; numbers = subst (BeginsWith 46 text (n ∷ a ∷ b ∷ c ∷ [])) end begins; value = refl })
    to n [] len rest begins end = absurd (omega (arith, len))
    to n (a ∷ []) len rest begins end = absurd (omega (arith, len))
    to n (a ∷ b ∷ []) len rest begins end = absurd (omega (arith, len))
    to n (a ∷ b ∷ c ∷ d ∷ ns) len rest begins end = absurd (omega (arith, len))

    from : (octets : List ℕ) → SaysV4 text octets → Numbers 46 3 IsEnd text
    from octets s = (s.a, s.b ∷ s.c ∷ s.d ∷ [], refl, [], s.numbers, refl)

-- a group and so many more, and then what passes a test
abbrev GroupsFrom : ℕ → (List ℕ → Type 0) → List ℕ → Type 0
GroupsFrom count Passes text =
    (n : ℕ) × (ns : List ℕ) × (length ns ≡ count) × (rest : List ℕ) × BeginsWithGroups text (n ∷ ns) rest × Passes rest

group : (text : List ℕ) → Decided (IsGroup text)
group text = and_then (numeral 16 text) (at_most (length text) 4)

groups_from : (count : ℕ) (Passes : List ℕ → Type 0) → ((rest : List ℕ) → Decided (Passes rest)) → (text : List ℕ) → Decided (GroupsFrom count Passes text)
groups_from zero Passes decides text =
    yes_if (λ both. (digits_value 16 (front_hex text), [], refl, behind_hex text, (both.0, refl, refl), both.1))
    (λ some. from some.0 some.1 some.2 some.3 some.4 some.5) (and_then (group (front_hex text)) (decides (behind_hex text)))
  where
    from : (n : ℕ) (ns : List ℕ) → length ns ≡ 0 → (rest : List ℕ) → BeginsWithGroups text (n ∷ ns) rest → Passes rest → IsGroup (front_hex text) × Passes (behind_hex text)
    from n [] len rest begins passes = (begins.0, subst Passes (sym begins.2) passes)
    from n (m ∷ ns) len rest begins passes = absurd (omega (arith, len))
groups_from (suc count) Passes decides text =
    yes_if (λ both. to both.0 both.1) (λ some. from some.0 some.1 some.2 some.3 some.4 some.5)
    (and_then (group (front_hex text)) (behind_separator 58 (GroupsFrom count Passes) (groups_from count Passes decides) (behind_hex text)))
  where
    to : IsGroup (front_hex text) → (next : List ℕ) × (behind_hex text ≡ 58 ∷ next) × GroupsFrom count Passes next → GroupsFrom (suc count) Passes text
    to is (next, e, (m, ns, len, rest, begins, passes)) =
        (digits_value 16 (front_hex text), m ∷ ns, ap suc len, rest, (is, refl, (next, e, begins)), passes)

    from : (n : ℕ) (ns : List ℕ) → length ns ≡ suc count → (rest : List ℕ) → BeginsWithGroups text (n ∷ ns) rest → Passes rest
        → IsGroup (front_hex text) × ((next : List ℕ) × (behind_hex text ≡ 58 ∷ next) × GroupsFrom count Passes next)
    from n [] len rest begins passes = absurd (omega (arith, len))
    from n (m ∷ ns) len rest begins passes =
        let one : length ns ≡ count = omega (arith, len) in
        (begins.0, (begins.2.0, begins.2.1, (m, ns, one, rest, begins.2.2, passes)))

-- so many groups, or none
abbrev Groups : ℕ → (List ℕ → Type 0) → List ℕ → Type 0
Groups count Passes text = (ns : List ℕ) × (length ns ≡ count) × (rest : List ℕ) × BeginsWithGroups text ns rest × Passes rest

groups : (count : ℕ) (Passes : List ℕ → Type 0) → ((rest : List ℕ) → Decided (Passes rest)) → (text : List ℕ) → Decided (Groups count Passes text)
groups zero Passes decides text =
    yes_if (λ p. ([], refl, text, refl, p)) (λ some. from some.0 some.1 some.2 some.3 some.4) (decides text)
  where
    from : (ns : List ℕ) → length ns ≡ 0 → (rest : List ℕ) → BeginsWithGroups text ns rest → Passes rest → Passes text
    from [] len rest begins passes = subst Passes (sym begins) passes
    from (n ∷ ns) len rest begins passes = absurd (omega (arith, len))
groups (suc count) Passes decides text =
    yes_if (λ some. (some.0 ∷ some.1, ap suc some.2, some.3, some.4, some.5)) (λ some. from some.0 some.1 some.2 some.3 some.4) (groups_from count Passes decides text)
  where
    from : (ns : List ℕ) → length ns ≡ suc count → (rest : List ℕ) → BeginsWithGroups text ns rest → Passes rest → GroupsFrom count Passes text
    from [] len rest begins passes = absurd (omega (arith, len))
    from (n ∷ ns) len rest begins passes = let one : length ns ≡ count = omega (arith, len) in (n, ns, one, rest, begins, passes)

-- behind so many groups a "::", and behind that so many that eight are not reached
abbrev BackGroups : ℕ → List ℕ → ℕ → Type 0
BackGroups before behind count = (before + count ≤ 7) × Groups count IsEnd behind

abbrev Shortens : ℕ → List ℕ → Type 0
Shortens before rest = (behind : List ℕ) × (rest ≡ 58 ∷ 58 ∷ behind) × ((count : ℕ) × (count ≤ 7) × BackGroups before behind count)

shortens : (before : ℕ) (rest : List ℕ) → Decided (Shortens before rest)
shortens before [] = never (λ some. let e : [] ≡ 58 ∷ 58 ∷ some.0 = some.1 in cc)
shortens before (c ∷ []) = never (λ some. let e : c ∷ [] ≡ 58 ∷ 58 ∷ some.0 = some.1 in cc)
shortens before (c ∷ d ∷ behind) =
    yes_if (λ all. (behind, (λ i. all.0 i ∷ all.1 i ∷ behind), all.2)) (λ some. from some.0 some.1 some.2)
    (and_both (same_number c 58) (same_number d 58) (some_number (BackGroups before behind) 7 (λ count. and_then (at_most (before + count) 7) (groups count IsEnd at_end behind))))
  where
    from : (other : List ℕ) → c ∷ d ∷ behind ≡ 58 ∷ 58 ∷ other → (count : ℕ) × (count ≤ 7) × BackGroups before other count
        → (c ≡ 58) × (d ≡ 58) × ((count : ℕ) × (count ≤ 7) × BackGroups before behind count)
    from other e some =
        let one : c ≡ 58 = cc in
        let two : d ≡ 58 = cc in
        let tail : other ≡ behind = cc in
        (one, two, (let P : List ℕ → Type 0 = λ l. (count : ℕ) × (count ≤ 7) × BackGroups before l count in subst P tail some))

abbrev FrontGroups : List ℕ → ℕ → Type 0
FrontGroups text count = Groups count (Shortens count) text

v6 : (text : List ℕ) → Decided ((octets : List ℕ) × SaysV6 text octets)
v6 text =
    yes_if (λ either. to either) (λ some. from some.1)
    (or_else (groups 8 IsEnd at_end text) (some_number (FrontGroups text) 7 (λ count. groups count (Shortens count) (shortens count) text)))
  where
    filled : (front back : List ℕ) (before count : ℕ) → length front ≡ before → length back ≡ count → before + count ≤ 7
        → length (front ++ (replicate (suc (7 - (before + count))) 0 ++ back)) ≡ 8
    filled front back before count one other le =
        let zeros : ℕ = 7 - (before + count) in
        omega (arith, length-append front (replicate (suc zeros) 0 ++ back), length-append (replicate (suc zeros) 0) back, length-replicate {A = ℕ} (suc zeros) 0, one, other, le)

    to : Groups 8 IsEnd text ⊎ ((count : ℕ) × (count ≤ 7) × FrontGroups text count) → (octets : List ℕ) × SaysV6 text octets
    to (inl (ns, len, rest, begins, end)) =
        (octets_of ns, record { groups = ns; eight = len; written = inl (subst (BeginsWithGroups text ns) end begins); value = refl })
    to (inr (before, le, (front, one, rest, begins, (behind, e, (count, few, (fits, (back, other, last, after, end))))))) =
        let zeros : ℕ = 7 - (before + count) in
        let all : List ℕ = front ++ (replicate (suc zeros) 0 ++ back) in (
          octets_of all,
          record {
            groups = all;
            eight = filled front back before count one other fits;
            written = inr (record {
              front = front;
              behind = behind;
              before = subst (BeginsWithGroups text front) e begins;
              filled = record { zeros = zeros; back = back; after = subst (BeginsWithGroups behind back) end after; groups_are = refl };
            });
            value = refl;
          },
        )

    from : {octets : List ℕ} → SaysV6 text octets → Groups 8 IsEnd text ⊎ ((count : ℕ) × (count ≤ 7) × FrontGroups text count)
    from s = by_written s.groups s.eight s.written
      where
        by_written : (ns : List ℕ) → length ns ≡ 8 → Written text ns → Groups 8 IsEnd text ⊎ ((count : ℕ) × (count ≤ 7) × FrontGroups text count)
        by_written ns len (inl begins) = inl (ns, len, [], begins, refl)
        by_written ns len (inr short) =
            let f = short.filled in
            let size : length short.front + (suc f.zeros + length f.back) ≡ 8 =
            omega (arith, length-append short.front (replicate (suc f.zeros) 0 ++ f.back), length-append (replicate (suc f.zeros) 0) f.back, length-replicate {A = ℕ} (suc f.zeros) 0, ap length f.groups_are, len) in
            inr (
              length short.front,
              omega (arith, size),
              (short.front, refl, 58 ∷ 58 ∷ short.behind, short.before, (short.behind, refl, (length f.back, omega (arith, size), (omega (arith, size), (f.back, refl, [], f.after, refl))))),
            )

pub host : (proto : ℕ) (address : List ℕ) → Decided ((host : Host) × SaysHost proto address host)
host proto address =
    yes_if (λ either. to either) (λ some. from some.0 some.1) (or_else (and_then (same_number proto 1) (v4 address)) (and_then (same_number proto 2) (v6 address)))
  where
    to : ((proto ≡ 1) × ((octets : List ℕ) × SaysV4 address octets)) ⊎ ((proto ≡ 2) × ((octets : List ℕ) × SaysV6 address octets)) → (host : Host) × SaysHost proto address host
    to (inl some) = (V4 some.1.0, (some.0, some.1.1))
    to (inr some) = (V6 some.1.0, (some.0, some.1.1))

    from : (host : Host) → SaysHost proto address host → ((proto ≡ 1) × ((octets : List ℕ) × SaysV4 address octets)) ⊎ ((proto ≡ 2) × ((octets : List ℕ) × SaysV6 address octets))
    from (V4 octets) says = inl (says.0, (octets, says.1))
    from (V6 octets) says = inr (says.0, (octets, says.1))

-- ---- extended addresses

delimiter : (d : ℕ) → Decided (IsDelimiter d)
delimiter d = and_both (at_most 33 d) (at_most d 126) (is_true (not (is_ascii_digit d)))

-- a delimiter, a port and a delimiter
abbrev Ends : ℕ → List ℕ → Type 0
Ends d back = (port : List ℕ) × (back ≡ d ∷ (port ++ d ∷ [])) × IsPort port

ends : (d : ℕ) (back : List ℕ) → Decided (Ends d back)
ends d [] = never (λ some. let e : [] ≡ d ∷ (some.0 ++ d ∷ []) = some.1 in cc)
ends d (c ∷ tail) =
    yes_if (λ both. to both.0 both.1) (λ some. from some.0 some.1 some.2)
    (and_then (same_number c d) (some_cut (λ front back. (back ≡ d ∷ []) × IsPort front) (λ front back. and_then (same_text back (d ∷ [])) (port front)) tail))
  where
    to : c ≡ d → (front back : List ℕ) × (tail ≡ front ++ back) × ((back ≡ d ∷ []) × IsPort front) → Ends d (c ∷ tail)
    to head (front, back, cut, (end, is)) = (front, (λ i. head i ∷ (cut ∙ ap (λ l. front ++ l) end) i), is)

    from : (front : List ℕ) → c ∷ tail ≡ d ∷ (front ++ d ∷ []) → IsPort front
        → (c ≡ d) × ((front back : List ℕ) × (tail ≡ front ++ back) × ((back ≡ d ∷ []) × IsPort front))
    from front e is =
        let head : c ≡ d = cc in
        let cut : tail ≡ front ++ d ∷ [] = cc in
        (head, (front, d ∷ [], cut, (refl, is)))

-- an extended address whose protocol and address pass a test
abbrev Shaped : (ℕ → List ℕ → Type 0) → List ℕ → Type 0
Shaped Passes text = (proto : ℕ) × (address : List ℕ) × (port : ℕ) × HasShape text proto address port × Passes proto address

-- what stands behind the protocol's number
abbrev AddressBehind : (ℕ → List ℕ → Type 0) → ℕ → List ℕ → List ℕ → Type 0
AddressBehind Passes d rest more =
    (address back : List ℕ) × (more ≡ address ++ back) × (Ends d back × Passes (digits_value 10 (front_digits rest)) address)

abbrev Parts : (ℕ → List ℕ → Type 0) → ℕ → List ℕ → Type 0
Parts Passes d rest =
    IsDelimiter d × IsNumber (front_digits rest) × ((more : List ℕ) × (behind_digits rest ≡ d ∷ more) × AddressBehind Passes d rest more)

parts : (Passes : ℕ → List ℕ → Type 0) → ((proto : ℕ) (address : List ℕ) → Decided (Passes proto address)) → (d : ℕ) (rest : List ℕ) → Decided (Parts Passes d rest)
parts Passes decides d rest =
    and_both (delimiter d) (number (front_digits rest))
    (behind_separator d (AddressBehind Passes d rest)
    (λ more. some_cut (λ address back. Ends d back × Passes (digits_value 10 (front_digits rest)) address)
    (λ address back. and_then (ends d back) (decides (digits_value 10 (front_digits rest)) address)) more) (behind_digits rest))

shaped : (Passes : ℕ → List ℕ → Type 0) → ((proto : ℕ) (address : List ℕ) → Decided (Passes proto address)) → (text : List ℕ) → Decided (Shaped Passes text)
shaped Passes decides [] = never (λ some. nothing some.3)
  where
    nothing : {proto port : ℕ} {address : List ℕ} → HasShape [] proto address port → ⊥
    nothing shape = absurd (let e : [] ≡ shape.d ∷ shape.rest = shape.text_is in cc)
shaped Passes decides (d ∷ rest) = yes_if (λ p. to p) (λ some. from some.0 some.1 some.2 some.3 some.4) (parts Passes decides d rest)
  where
    to : Parts Passes d rest → Shaped Passes (d ∷ rest)
    to (is, value, (more, e, (address, back, cut, ((port, end, is_port), passes)))) = (
      digits_value 10 (front_digits rest),
      address,
      digits_value 10 port,
      record {
        d = d;
        rest = rest;
        more = more;
        delimiter = is;
        text_is = refl;
        number = (value, refl);
        behind = e;
        ends = record { digits = port; number = (is_port, refl); text_is = cut ∙ ap (λ l. address ++ l) end };
      },
      passes,
    )

    from : (proto : ℕ) (address : List ℕ) (port : ℕ) → HasShape (d ∷ rest) proto address port → Passes proto address → Parts Passes d rest
    from proto address port shape passes =
        let e : d ∷ rest ≡ shape.d ∷ shape.rest = shape.text_is in
        let head : shape.d ≡ d = cc in
        let tail : shape.rest ≡ rest = cc in
        let Q : ℕ → Type 0 = λ n. Passes n address in
        let end : List ℕ = shape.d ∷ (shape.ends.digits ++ shape.d ∷ []) in
        let there : Parts Passes shape.d shape.rest =
        (shape.delimiter, shape.number.0, (shape.more, shape.behind, (address, end, shape.ends.text_is, ((shape.ends.digits, refl, shape.ends.number.0), subst Q shape.number.1 passes)))) in
        let R : List ℕ → Type 0 = λ l. Parts Passes d l in
        let S : ℕ → Type 0 = λ n. Parts Passes n shape.rest in
        subst R tail (subst S head there)

pub extended : (text : List ℕ) → Decided ((endpoint : Endpoint) × SaysExtended text endpoint)
extended text =
    yes_if (λ some. to some.0 some.1 some.2 some.3 some.4) (λ some. from some.0 some.1)
    (shaped (λ proto address. (host : Host) × SaysHost proto address host) host text)
  where
    to : (proto : ℕ) (address : List ℕ) (port : ℕ) → HasShape text proto address port → (host : Host) × SaysHost proto address host → (endpoint : Endpoint) × SaysExtended text endpoint
    to proto address port shape some =
        (record { host = some.0; port = port }, record { proto = proto; address = address; shape = shape; host = some.1 })

    from : (endpoint : Endpoint) → SaysExtended text endpoint → Shaped (λ proto address. (host : Host) × SaysHost proto address host) text
    from endpoint s = (s.proto, s.address, endpoint.port, s.shape, (endpoint.host, s.host))

pub other_protocol : (text : List ℕ) → Decided (IsOtherProtocol text)
other_protocol text =
    yes_if (λ some. record { proto = some.0; address = some.1; port = some.2; shape = some.3; not_v4 = some.4.0; not_v6 = some.4.1 })
    (λ s. (s.proto, s.address, s.port, s.shape, (s.not_v4, s.not_v6)))
    (shaped (λ proto address. (proto ≢ 1) × (proto ≢ 2)) (λ proto address. and_then (unless (same_number proto 1)) (unless (same_number proto 2))) text)
