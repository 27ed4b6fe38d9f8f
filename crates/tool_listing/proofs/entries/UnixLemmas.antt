-- Columns of a line: its day, and where an arrow stands in a name.
use Rattle.std.proofs.Common.{◌≡◌, ◌∙◌, ◌+◌, ◌<◌, ◌≤◌, ◌^◌, ℕ, Bool, false, List, [], ◌∷◌, ◌++◌, Option, Some, length, take, drop, get_or, refl, sym, ap, arith}
use Rattle.std.proofs.Math.Nat.{pow-le-pow_right}
use Rattle.std.proofs.lemmas.Int.Digits.{digits_value-lt}
use Rattle.std.proofs.lemmas.List.{append_assoc, drop_more, take_more}
use Rattle.std.specs.List.{starts_with}
use Rattle.std.specs.Option.{ForSome}
use Rattle.std.specs.Prelude.{codes, nat_eq, if◌then◌else◌}
use Rattle.std.specs.Str.Parse.{digits_value}
use Rattle.ftp_facts.proofs.NumberLemmas.{number_says}
use Rattle.ftp_facts.specs.Value.{number_value}
use Rattle.tool_listing.specs.entries.UnixLine.{before_arrow}

-- two digits write a number below 100
few_digits : (text : List ℕ) (day : ℕ) → length text ≤ 2 → number_value text ≡ Some day → day ≤ 99
few_digits text day short is =
    let says = number_says text day is in
    let value : day ≡ digits_value 10 text = says.1 in
    let small = digits_value-lt 10 text says.0.0.1 in
    let grows : 10 ^ length text ≤ 10 ^ 2 = pow-le-pow_right {n = 10} (let p : 0 < 10 = omega arith in p) short in
    let hundred : 10 ^ 2 ≡ 100 = refl in
    omega (arith, value, small, grows, hundred)

pub few : (text : List ℕ) (day : Option ℕ) → length text ≤ 2 → day ≡ number_value text → ForSome day (λ day. day ≤ 99)
few text day short is = λ some e. few_digits text some short (sym is ∙ e)

-- an arrow
abbrev arrow : List ℕ → Bool
arrow text = starts_with nat_eq text (codes " -> ")

passed : (rest : List ℕ) (x : ℕ) (behind : List ℕ) → rest ≡ x ∷ behind → arrow rest ≡ false → before_arrow rest ≡ x ∷ before_arrow behind
passed rest x behind is none =
    ap before_arrow is ∙ ap (λ b. if b then [] else x ∷ before_arrow behind) (ap arrow (sym is) ∙ none)

-- no arrow stands at this place
pub arrow_next : (name : List ℕ) (i : ℕ) → i < length name → starts_with nat_eq (drop i name) (codes " -> ") ≡ false
    → take i name ++ before_arrow (drop i name) ≡ before_arrow name
    → take (i + 1) name ++ before_arrow (drop (i + 1) name) ≡ before_arrow name
arrow_next name i within none so =
    let behind = before_arrow (drop (i + 1) name) in
    ap (λ front. front ++ behind) (take_more name i 0 within) ∙ append_assoc (take i name) (get_or name i 0 ∷ []) behind
    ∙ ap (λ rest. take i name ++ rest) (sym (passed (drop i name) (get_or name i 0) (drop (i + 1) name) (drop_more name i 0 within) none)) ∙ so
