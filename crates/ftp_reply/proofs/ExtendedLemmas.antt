-- The port that a text names, as a value and as a relation.
use Rattle.std.proofs.Common.{◌≡◌, ℕ, zero, suc, ◌<◌, List, [], ◌∷◌, ◌++◌, Bool, true, false, not, ◌==◌, ◌&&◌, Option, Some, None, refl, sym, ap, subst, ◌∙◌, arith, length, take, drop, eqb-true, eq-eqb}
use Rattle.std.specs.Prelude.{nat_eq}
use Rattle.std.specs.Bool.{then_some}
use Rattle.std.specs.Char.{is_ascii_digit}
use Rattle.std.specs.List.{starts_with, prefix_len}
use Rattle.std.specs.Option.{option_or, is_some}
use Rattle.std.specs.Str.Parse.{digits_value}
use Rattle.std.proofs.Math.Seq.{take-append_seam}
use Rattle.std.proofs.lemmas.Bool.Decides.{Decides-eqb}
use Rattle.std.proofs.lemmas.Slice.Eq.{starts_is}
use Rattle.ftp_endpoint.specs.Endpoint.{IsDelimiter, ClosesWithPort, BeginsWithPort}
use Rattle.ftp_endpoint.specs.Number.{IsPort, SaysPort, front_digits, behind_digits}
use Rattle.ftp_endpoint.proofs.EndpointLemmas.{closes}
use Rattle.ftp_endpoint.proofs.NumberLemmas.{run_before}
use Rattle.ftp_facts.specs.Value.{number_within}
use Rattle.ftp_facts.proofs.CutLemmas.{then_is, is_then}
use Rattle.ftp_facts.proofs.NumberLemmas.{Within, given_is, is_given, both, and_both, at_most, is_at_most, within_says, says_within}
use Rattle.ftp_reply.specs.Values.{HasPortAt, NamesPort, extended_value, is_delimiter, port_closed, port_in_front}
use Rattle.ftp_reply.proofs.FrontLemmas.{drop_front}

-- ---- ports

says_port : (digits : List ℕ) (port : ℕ) → number_within 18 1 65535 digits ≡ Some port → SaysPort digits port
says_port digits port e =
    let g = given_is _ (digits_value 10 digits) port e in
    let w : Within 18 1 65535 digits = within_says 18 1 65535 digits g.0 in
    (((((w.some, w.all), w.short), w.least, w.greatest)), sym g.1)

port_read : (digits : List ℕ) (port : ℕ) → SaysPort digits port → number_within 18 1 65535 digits ≡ Some port
port_read digits port says =
    let is : IsPort digits = says.0 in
    let w : Within 18 1 65535 digits = record { some = is.0.0.0; short = is.0.1; all = is.0.0.1; least = is.1; greatest = is.2 } in
    is_given _ (digits_value 10 digits) (says_within 18 1 65535 digits w) ∙ ap Some (sym says.1)

delimits : (d : ℕ) → is_delimiter d ≡ true → IsDelimiter d
delimits d is =
    let parts = both _ _ is in
    let range = both _ _ parts.0 in
    (at_most 33 d range.0, at_most d 126 range.1, parts.1)

is_delimiting : (d : ℕ) → IsDelimiter d → is_delimiter d ≡ true
is_delimiting d is = and_both _ _ (and_both _ _ (is_at_most 33 d is.0) (is_at_most d 126 is.1)) is.2

no_digit : (b : Bool) → not b ≡ true → b ≡ false
no_digit false is = refl
no_digit true is = absurd (let e : false ≡ true = is in cc)

closed_says : (d : ℕ) (text : List ℕ) (port : ℕ) → port_closed d text ≡ Some port → ClosesWithPort d text port
closed_says d text port e =
    let step = then_is (then_some (starts_with nat_eq (behind_digits text) (d ∷ 41 ∷ [])) (front_digits text)) (number_within 18 1 65535) port e in
    let first = given_is (starts_with nat_eq (behind_digits text) (d ∷ 41 ∷ [])) (front_digits text) step.0 step.1 in
    let starts = (starts_is Decides-eqb (behind_digits text) (d ∷ 41 ∷ []) (starts_with nat_eq (behind_digits text) (d ∷ 41 ∷ [])) refl).0 first.0 in
    let P : List ℕ → Type 0 = λ l. SaysPort l port in
    closes d text port (drop 2 (behind_digits text)) starts (subst P (sym first.1) (says_port step.0 port step.2))

says_closed : (d : ℕ) (text : List ℕ) (port : ℕ) → is_ascii_digit d ≡ false → ClosesWithPort d text port → port_closed d text ≡ Some port
says_closed d text port other c =
    let more : List ℕ = d ∷ 41 ∷ c.more in
    let run : prefix_len is_ascii_digit (c.digits ++ more) ≡ length c.digits = run_before c.digits d (41 ∷ c.more) c.number.0.0.0.1 other in
    let front : front_digits (c.digits ++ more) ≡ c.digits = ap (λ n. take n (c.digits ++ more)) run ∙ take-append_seam c.digits more in
    let behind : behind_digits (c.digits ++ more) ≡ more = ap (λ n. drop n (c.digits ++ more)) run ∙ drop_front c.digits more in
    let starts : starts_with nat_eq (behind_digits (c.digits ++ more)) (d ∷ 41 ∷ []) ≡ true =
    (starts_is Decides-eqb (behind_digits (c.digits ++ more)) (d ∷ 41 ∷ []) (starts_with nat_eq (behind_digits (c.digits ++ more)) (d ∷ 41 ∷ [])) refl).1 c.more behind in
    let found : then_some (starts_with nat_eq (behind_digits (c.digits ++ more)) (d ∷ 41 ∷ [])) (front_digits (c.digits ++ more)) ≡ Some c.digits =
    is_given (starts_with nat_eq (behind_digits (c.digits ++ more)) (d ∷ 41 ∷ [])) (front_digits (c.digits ++ more)) starts ∙ ap Some front in
    ap (port_closed d) c.text_is
    ∙ is_then (then_some (starts_with nat_eq (behind_digits (c.digits ++ more)) (d ∷ 41 ∷ [])) (front_digits (c.digits ++ more))) (number_within 18 1 65535) c.digits port found (port_read c.digits port c.number)

front_says : (text : List ℕ) (port : ℕ) → port_in_front text ≡ Some port → BeginsWithPort text port
front_says [] port e = absurd (let b : false ≡ true = ap is_some e in cc)
front_says (a ∷ []) port e = absurd (let b : false ≡ true = ap is_some e in cc)
front_says (a ∷ b ∷ []) port e = absurd (let t : false ≡ true = ap is_some e in cc)
front_says (a ∷ b ∷ c ∷ []) port e = absurd (let t : false ≡ true = ap is_some e in cc)
front_says (paren ∷ d ∷ f ∷ g ∷ rest) port e =
    let step = then_is (then_some ((paren == 40) && is_delimiter d && (f == d) && (g == d)) rest) (port_closed d) port e in
    let first = given_is ((paren == 40) && is_delimiter d && (f == d) && (g == d)) rest step.0 step.1 in
    let three = both _ _ first.0 in
    let two = both _ _ three.0 in
    let one = both _ _ two.0 in
    let opened : paren ≡ 40 = eqb-true paren 40 one.0 in
    let second : f ≡ d = eqb-true f d two.1 in
    let third : g ≡ d = eqb-true g d three.1 in
    let P : List ℕ → Type 0 = λ l. ClosesWithPort d l port in
    record {
      d = d;
      rest = rest;
      delimiter = delimits d one.1;
      text_is = (λ i. opened i ∷ d ∷ second i ∷ third i ∷ rest);
      closes = subst P (sym first.1) (closed_says d step.0 port step.2);
    }

says_front : (text : List ℕ) (port : ℕ) → BeginsWithPort text port → port_in_front text ≡ Some port
says_front text port s =
    let d : ℕ = s.d in
    let same : (d == d) ≡ true = eq-eqb d d refl in
    let all : ((40 == 40) && is_delimiter d && (d == d) && (d == d)) ≡ true = and_both _ _ (and_both _ _ (is_delimiting d s.delimiter) same) same in
    ap port_in_front s.text_is
    ∙ is_then (then_some ((40 == 40) && is_delimiter d && (d == d) && (d == d)) s.rest) (port_closed d) s.rest port
    (is_given ((40 == 40) && is_delimiter d && (d == d) && (d == d)) s.rest all)
    (says_closed d s.rest port (no_digit (is_ascii_digit d) s.delimiter.2) s.closes)

-- ---- the first place

behind_first : (c : ℕ) (text : List ℕ) (port : ℕ) → port_in_front (c ∷ text) ≡ None → NamesPort text port → NamesPort (c ∷ text) port
behind_first c text port none n = record {
  place = suc n.place;
  here = record { within = omega (arith, n.here.within); port_is = n.here.port_is };
  first = λ earlier less other here. earlier_none earlier less other here;
}
  where
    earlier_none : (earlier : ℕ) → earlier < suc n.place → (other : ℕ) → HasPortAt (c ∷ text) earlier other → ⊥
    earlier_none zero less other here =
        absurd (let e : None ≡ Some other = sym none ∙ says_front (c ∷ text) other here.port_is in let b : false ≡ true = ap is_some e in cc)
    earlier_none (suc earlier) less other here =
        n.first earlier (omega (arith, less)) other (record { within = omega (arith, here.within); port_is = here.port_is })

in_front : (text : List ℕ) (port : ℕ) → port_in_front text ≡ Some port → NamesPort text port
in_front text port e = record {
  place = 0;
  here = record { within = omega arith; port_is = front_says text port e };
  first = λ earlier less other here. absurd (omega (arith, less));
}

pub port_says : (text : List ℕ) (port : ℕ) → extended_value text ≡ Some port → NamesPort text port
unfolding extended_value
port_says [] port e = absurd (let b : false ≡ true = ap is_some e in cc)
port_says (c ∷ text) port e = by_front (λ f. port_says text port f) (port_in_front (c ∷ text)) refl e
  where
    by_front : (extended_value text ≡ Some port → NamesPort text port) → (front : Option ℕ) → port_in_front (c ∷ text) ≡ front → option_or front (extended_value text) ≡ Some port
        → NamesPort (c ∷ text) port
    by_front later (Some found) is f = in_front (c ∷ text) port (is ∙ f)
    by_front later None is f = behind_first c text port is (later f)

pub says_port_of : (text : List ℕ) (port : ℕ) → NamesPort text port → extended_value text ≡ Some port
unfolding extended_value
says_port_of [] port n = absurd (nothing n.place n.here.port_is)
  where
    nothing : (place : ℕ) → BeginsWithPort (drop place []) port → ⊥
    nothing zero s = absurd (let e : [] ≡ 40 ∷ s.d ∷ s.d ∷ s.d ∷ s.rest = s.text_is in cc)
    nothing (suc place) s = absurd (let e : [] ≡ 40 ∷ s.d ∷ s.d ∷ s.d ∷ s.rest = s.text_is in cc)
says_port_of (c ∷ text) port n = by_place (λ later. says_port_of text port later) n.place n.here n.first (port_in_front (c ∷ text)) refl
  where
    by_place : (NamesPort text port → extended_value text ≡ Some port) → (place : ℕ) → HasPortAt (c ∷ text) place port
        → ((earlier : ℕ) → earlier < place → (other : ℕ) → ¬ HasPortAt (c ∷ text) earlier other)
        → (front : Option ℕ) → port_in_front (c ∷ text) ≡ front → option_or (port_in_front (c ∷ text)) (extended_value text) ≡ Some port
    by_place later zero here first front is = ap (λ o. option_or o (extended_value text)) (says_front (c ∷ text) port here.port_is)
    by_place later (suc place) here first (Some found) is =
        absurd (first 0 (omega arith) found (record { within = omega arith; port_is = front_says (c ∷ text) found is }))
    by_place later (suc place) here first None is =
        ap (λ o. option_or o (extended_value text)) is
        ∙ later (record {
          place = place;
          here = record { within = omega (arith, here.within); port_is = here.port_is };
          first = λ earlier less other there. first (suc earlier) (omega (arith, less)) other (record { within = omega (arith, there.within); port_is = there.port_is });
        })

pub no_port : (text : List ℕ) → ((place port : ℕ) → ¬ HasPortAt text place port) → extended_value text ≡ None
no_port text none = by_value (extended_value text) refl
  where
    by_value : (value : Option ℕ) → extended_value text ≡ value → value ≡ None
    by_value None e = refl
    by_value (Some port) e = let n = port_says text port e in absurd (none n.place port n.here)
