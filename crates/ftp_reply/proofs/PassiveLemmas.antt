-- The endpoint that a text names, as a value and as a relation.
use Rattle.std.proofs.Common.{◌≡◌, ℕ, zero, suc, ◌-◌, ◌<◌, ◌≤◌, List, [], ◌∷◌, Bool, true, false, not, Option, Some, None, refl, sym, ap, ◌∙◌, arith, length, drop}
use Rattle.std.specs.Prelude.{slice_index, IsTrue}
use Rattle.std.specs.Bool.{then_some}
use Rattle.std.specs.Char.{is_ascii_digit}
use Rattle.std.specs.Option.{option_map, option_or, is_some}
use Rattle.std.specs.Str.Parse.{digits_value}
use Rattle.ftp_endpoint.specs.Endpoint.{BeginsWith, BeginsWithSix}
use Rattle.ftp_endpoint.specs.Number.{IsOctet, SaysOctet, front_digits, behind_digits}
use Rattle.ftp_endpoint.specs.declared.endpoint.Endpoint.{Endpoint}
use Rattle.ftp_facts.specs.Value.{and_then, number_within}
use Rattle.ftp_facts.proofs.CutLemmas.{then_is, is_then, map_is}
use Rattle.ftp_facts.proofs.NumberLemmas.{Within, given_is, is_given, within_says, says_within}
use Rattle.ftp_reply.specs.Values.{HasSixAt, NamesEndpoint, behind_text, endpoint_of, numbers_in_front, octet_in_front, passive_value, six_behind, six_in_front}
use Rattle.ftp_reply.proofs.FrontLemmas.{behind_is, is_behind}

-- ---- six numbers

octet_says : (digits : List ℕ) (n : ℕ) → number_within 3 0 255 digits ≡ Some n → SaysOctet digits n
octet_says digits n e =
    let g = given_is _ (digits_value 10 digits) n e in
    let w : Within 3 0 255 digits = within_says 3 0 255 digits g.0 in
    (((w.some, w.all), w.short, w.greatest), sym g.1)

octet_read : (digits : List ℕ) (n : ℕ) → SaysOctet digits n → number_within 3 0 255 digits ≡ Some n
octet_read digits n says =
    let is : IsOctet digits = says.0 in
    let w : Within 3 0 255 digits = record { some = is.0.0; short = is.1; all = is.0.1; least = omega arith; greatest = is.2 } in
    is_given _ (digits_value 10 digits) (says_within 3 0 255 digits w) ∙ ap Some (sym says.1)

-- numbers joined by commas, so many behind the first
abbrev Numbers : ℕ → List ℕ → List ℕ → Type 0
Numbers count text numbers =
    (n : ℕ) × (ns : List ℕ) × (length ns ≡ count) × (rest : List ℕ) × (numbers ≡ n ∷ ns) × BeginsWith 44 text (n ∷ ns) rest

numbers_say : (count : ℕ) (text numbers : List ℕ) → numbers_in_front count text ≡ Some numbers → Numbers count text numbers
numbers_say zero text numbers e =
    let one = map_is (λ number. number ∷ []) (octet_in_front text) numbers e in
    (one.0, [], refl, behind_digits text, sym one.2, (octet_says (front_digits text) one.0 one.1, refl))
numbers_say (suc count) text numbers e =
    let step = then_is (octet_in_front text) (λ n. and_then (behind_text (44 ∷ []) (behind_digits text)) (λ rest. option_map (λ ns. n ∷ ns) (numbers_in_front count rest))) numbers e in
    let cut = then_is (behind_text (44 ∷ []) (behind_digits text)) (λ rest. option_map (λ ns. step.0 ∷ ns) (numbers_in_front count rest)) numbers step.2 in
    let more = map_is (λ (ns : List ℕ). step.0 ∷ ns) (numbers_in_front count cut.0) numbers cut.2 in
    let next : behind_digits text ≡ 44 ∷ cut.0 = behind_is (44 ∷ []) (behind_digits text) cut.0 cut.1 in
    let (m, ns, len, rest, is, begins) = numbers_say count cut.0 more.0 more.1 in (
      step.0,
      m ∷ ns,
      ap suc len,
      rest,
      sym more.2 ∙ ap (λ l. step.0 ∷ l) is,
      (octet_says (front_digits text) step.0 step.1, (cut.0, next, begins)),
    )

numbers_read : (text : List ℕ) (n : ℕ) (ns rest : List ℕ) → BeginsWith 44 text (n ∷ ns) rest → numbers_in_front (length ns) text ≡ Some (n ∷ ns)
numbers_read text n [] rest begins = ap (option_map (λ number. number ∷ [])) (octet_read (front_digits text) n begins.0)
numbers_read text n (m ∷ ns) rest begins =
    let next : List ℕ = begins.1.0 in
    let later : numbers_in_front (length ns) next ≡ Some (m ∷ ns) = numbers_read next m ns rest begins.1.2 in
    let behind : behind_text (44 ∷ []) (behind_digits text) ≡ Some next = ap (behind_text (44 ∷ [])) begins.1.1 ∙ is_behind (44 ∷ []) next in
    is_then (octet_in_front text) (λ n. and_then (behind_text (44 ∷ []) (behind_digits text)) (λ rest. option_map (λ ns. n ∷ ns) (numbers_in_front (length ns) rest))) n (n ∷ m ∷ ns)
    (octet_read (front_digits text) n begins.0)
    (is_then (behind_text (44 ∷ []) (behind_digits text)) (λ rest. option_map (λ ns. n ∷ ns) (numbers_in_front (length ns) rest)) next (n ∷ m ∷ ns) behind (ap (option_map (λ (l : List ℕ). n ∷ l)) later))

six_says : (text : List ℕ) (endpoint : Endpoint) → six_in_front text ≡ Some endpoint → (behind : List ℕ) × BeginsWithSix text endpoint behind
six_says text endpoint e =
    let step = map_is endpoint_of (numbers_in_front 5 text) endpoint e in
    let (n, ns, len, rest, is, begins) = numbers_say 5 text step.0 step.1 in
    by_numbers n ns len rest begins (sym step.2 ∙ ap endpoint_of is)
  where
    by_numbers : (n : ℕ) (ns : List ℕ) → length ns ≡ 5 → (rest : List ℕ) → BeginsWith 44 text (n ∷ ns) rest → endpoint ≡ endpoint_of (n ∷ ns)
        → (behind : List ℕ) × BeginsWithSix text endpoint behind
    by_numbers n (a ∷ b ∷ c ∷ d ∷ f ∷ []) len rest begins value =
        (rest, record { h1 = n; h2 = a; h3 = b; h4 = c; p1 = d; p2 = f; numbers = begins; value = value })
    by_numbers n [] len rest begins value = absurd (omega (arith, len))
    by_numbers n (a ∷ []) len rest begins value = absurd (omega (arith, len))
    by_numbers n (a ∷ b ∷ []) len rest begins value = absurd (omega (arith, len))
    by_numbers n (a ∷ b ∷ c ∷ []) len rest begins value = absurd (omega (arith, len))
    by_numbers n (a ∷ b ∷ c ∷ d ∷ []) len rest begins value = absurd (omega (arith, len))
    by_numbers n (a ∷ b ∷ c ∷ d ∷ f ∷ g ∷ ns) len rest begins value = absurd (omega (arith, len))

says_six : (text : List ℕ) (endpoint : Endpoint) (behind : List ℕ) → BeginsWithSix text endpoint behind → six_in_front text ≡ Some endpoint
says_six text endpoint behind s =
    ap (option_map endpoint_of) (numbers_read text s.h1 (s.h2 ∷ s.h3 ∷ s.h4 ∷ s.p1 ∷ s.p2 ∷ []) behind s.numbers) ∙ ap Some (sym s.value)

-- ---- the first place

-- no digit stands right before this place; before the first there is one or not
abbrev IsWhole : Bool → List ℕ → ℕ → Type 0
IsWhole digit text zero = digit ≡ false
IsWhole digit text (suc place) = is_ascii_digit (slice_index text place) ≡ false

record SixAt (digit : Bool) (text : List ℕ) (place : ℕ) (endpoint : Endpoint) : Type 0 where
  within : place ≤ length text
  whole : IsWhole digit text place
  behind : List ℕ
  numbers : BeginsWithSix (drop place text) endpoint behind

record FirstSix (digit : Bool) (text : List ℕ) (endpoint : Endpoint) : Type 0 where
  place : ℕ
  here : SixAt digit text place endpoint
  first : (earlier : ℕ) → earlier < place → (other : Endpoint) → ¬ SixAt digit text earlier other

next_whole : (digit : Bool) (c : ℕ) (text : List ℕ) (place : ℕ) → IsWhole (is_ascii_digit c) text place → IsWhole digit (c ∷ text) (suc place)
next_whole digit c text zero whole = whole
next_whole digit c text (suc place) whole = whole

whole_next : (digit : Bool) (c : ℕ) (text : List ℕ) (place : ℕ) → IsWhole digit (c ∷ text) (suc place) → IsWhole (is_ascii_digit c) text place
whole_next digit c text zero whole = whole
whole_next digit c text (suc place) whole = whole

tail_at : (digit : Bool) (c : ℕ) (text : List ℕ) (place : ℕ) (endpoint : Endpoint) → SixAt digit (c ∷ text) (suc place) endpoint → SixAt (is_ascii_digit c) text place endpoint
tail_at digit c text place endpoint s =
    record { within = omega (arith, s.within); whole = whole_next digit c text place s.whole; behind = s.behind; numbers = s.numbers }

at_tail : (digit : Bool) (c : ℕ) (text : List ℕ) (place : ℕ) (endpoint : Endpoint) → SixAt (is_ascii_digit c) text place endpoint → SixAt digit (c ∷ text) (suc place) endpoint
at_tail digit c text place endpoint s =
    record { within = omega (arith, s.within); whole = next_whole digit c text place s.whole; behind = s.behind; numbers = s.numbers }

-- what stands at the first place, where no digit stands before it
abbrev front_of : Bool → List ℕ → Option Endpoint
front_of digit text = and_then (then_some (not digit) text) six_in_front

front_says : (digit : Bool) (text : List ℕ) (endpoint : Endpoint) → front_of digit text ≡ Some endpoint → SixAt digit text 0 endpoint
front_says true text endpoint e = absurd (let b : false ≡ true = ap is_some e in cc)
front_says false text endpoint e = let six = six_says text endpoint e in record { within = omega arith; whole = refl; behind = six.0; numbers = six.1 }

says_front : (digit : Bool) (text : List ℕ) (endpoint : Endpoint) → SixAt digit text 0 endpoint → front_of digit text ≡ Some endpoint
says_front true text endpoint s = absurd (let e : true ≡ false = s.whole in cc)
says_front false text endpoint s = says_six text endpoint s.behind s.numbers

behind_says : (digit : Bool) (text : List ℕ) (endpoint : Endpoint) → six_behind digit text ≡ Some endpoint → FirstSix digit text endpoint
behind_says digit [] endpoint e = absurd (let b : false ≡ true = ap is_some e in cc)
behind_says digit (c ∷ text) endpoint e = by_front (λ f. behind_says (is_ascii_digit c) text endpoint f) (front_of digit (c ∷ text)) refl e
  where
    none_before : front_of digit (c ∷ text) ≡ None → (n : FirstSix (is_ascii_digit c) text endpoint) → (earlier : ℕ) → earlier < suc n.place → (other : Endpoint)
        → SixAt digit (c ∷ text) earlier other → ⊥
    none_before none n zero less other s =
        absurd (let e : None ≡ Some other = sym none ∙ says_front digit (c ∷ text) other s in let b : false ≡ true = ap is_some e in cc)
    none_before none n (suc earlier) less other s = n.first earlier (omega (arith, less)) other (tail_at digit c text earlier other s)

    by_front : (six_behind (is_ascii_digit c) text ≡ Some endpoint → FirstSix (is_ascii_digit c) text endpoint) → (front : Option Endpoint) → front_of digit (c ∷ text) ≡ front
        → option_or front (six_behind (is_ascii_digit c) text) ≡ Some endpoint → FirstSix digit (c ∷ text) endpoint
    by_front later (Some found) is f =
        record { place = 0; here = front_says digit (c ∷ text) endpoint (is ∙ f); first = λ earlier less other s. absurd (omega (arith, less)) }
    by_front later None is f =
        let n = later f in
        record { place = suc n.place; here = at_tail digit c text n.place endpoint n.here; first = λ earlier less other s. none_before is n earlier less other s }

says_behind : (digit : Bool) (text : List ℕ) (endpoint : Endpoint) → FirstSix digit text endpoint → six_behind digit text ≡ Some endpoint
says_behind digit [] endpoint n = absurd (nothing n.place n.here)
  where
    no_numbers : (behind : List ℕ) → BeginsWithSix [] endpoint behind → ⊥
    no_numbers behind s = absurd (let is : IsOctet [] = s.numbers.0.0 in omega (arith, is.0.0))

    nothing : (place : ℕ) → SixAt digit [] place endpoint → ⊥
    nothing zero s = no_numbers s.behind s.numbers
    nothing (suc place) s = absurd (omega (arith, s.within))
says_behind digit (c ∷ text) endpoint n = by_place (λ later. says_behind (is_ascii_digit c) text endpoint later) n.place n.here n.first (front_of digit (c ∷ text)) refl
  where
    by_place : (FirstSix (is_ascii_digit c) text endpoint → six_behind (is_ascii_digit c) text ≡ Some endpoint) → (place : ℕ) → SixAt digit (c ∷ text) place endpoint
        → ((earlier : ℕ) → earlier < place → (other : Endpoint) → ¬ SixAt digit (c ∷ text) earlier other)
        → (front : Option Endpoint) → front_of digit (c ∷ text) ≡ front → option_or (front_of digit (c ∷ text)) (six_behind (is_ascii_digit c) text) ≡ Some endpoint
    by_place later zero here first front is = ap (λ o. option_or o (six_behind (is_ascii_digit c) text)) (says_front digit (c ∷ text) endpoint here)
    by_place later (suc place) here first (Some found) is = absurd (first 0 (omega arith) found (front_says digit (c ∷ text) found is))
    by_place later (suc place) here first None is =
        ap (λ o. option_or o (six_behind (is_ascii_digit c) text)) is
        ∙ later (record {
          place = place;
          here = tail_at digit c text place endpoint here;
          first = λ earlier less other s. first (suc earlier) (omega (arith, less)) other (at_tail digit c text earlier other s);
        })

-- ---- the same by places

not_true : (b : Bool) → b ≡ false → not b ≡ true
not_true b is = ap not is

not_digit : (b : Bool) → not b ≡ true → b ≡ false
not_digit false is = refl
not_digit true is = absurd (let e : false ≡ true = is in cc)

named_at : (text : List ℕ) (place : ℕ) (endpoint : Endpoint) → SixAt false text place endpoint → HasSixAt text place endpoint
named_at text place endpoint s = record { within = s.within; whole = λ some. whole place s.whole some; behind = s.behind; numbers = s.numbers }
  where
    whole : (place : ℕ) → IsWhole false text place → 0 < place → IsTrue (not (is_ascii_digit (slice_index text (place - 1))))
    whole zero is some = absurd (omega (arith, some))
    whole (suc place) is some =
        let one : suc place - 1 ≡ place = omega arith in
        ap (λ n. not (is_ascii_digit (slice_index text n))) one ∙ not_true (is_ascii_digit (slice_index text place)) is

at_named : (text : List ℕ) (place : ℕ) (endpoint : Endpoint) → HasSixAt text place endpoint → SixAt false text place endpoint
at_named text place endpoint s = record { within = s.within; whole = whole place s.whole; behind = s.behind; numbers = s.numbers }
  where
    whole : (place : ℕ) → (0 < place → IsTrue (not (is_ascii_digit (slice_index text (place - 1))))) → IsWhole false text place
    whole zero is = refl
    whole (suc place) is =
        let one : place ≡ suc place - 1 = omega arith in
        not_digit (is_ascii_digit (slice_index text place)) (ap (λ n. not (is_ascii_digit (slice_index text n))) one ∙ is (omega arith))

pub endpoint_says : (text : List ℕ) (endpoint : Endpoint) → passive_value text ≡ Some endpoint → NamesEndpoint text endpoint
unfolding passive_value
endpoint_says text endpoint e =
    let n = behind_says false text endpoint e in
    record { place = n.place; here = named_at text n.place endpoint n.here; first = λ earlier less other s. n.first earlier less other (at_named text earlier other s) }

pub says_endpoint : (text : List ℕ) (endpoint : Endpoint) → NamesEndpoint text endpoint → passive_value text ≡ Some endpoint
unfolding passive_value
says_endpoint text endpoint n =
    says_behind false text endpoint (record { place = n.place; here = at_named text n.place endpoint n.here; first = λ earlier less other s. n.first earlier less other (named_at text earlier other s) })

pub no_endpoint : (text : List ℕ) → ((place : ℕ) (endpoint : Endpoint) → ¬ HasSixAt text place endpoint) → passive_value text ≡ None
no_endpoint text none = by_value (passive_value text) refl
  where
    by_value : (value : Option Endpoint) → passive_value text ≡ value → value ≡ None
    by_value None e = refl
    by_value (Some endpoint) e = let n = endpoint_says text endpoint e in absurd (none n.place endpoint n.here)
