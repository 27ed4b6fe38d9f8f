-- What std says of texts that are cut at a character, as lists of octets.
use Rattle.std.proofs.Common.{◌≡◌, ◌≢◌, ◌==◌, ℕ, ◌+◌, ◌-◌, ◌<◌, ◌≤◌, true, false, not, List, ◌∷◌, ◌++◌, length, drop, get_or, Option, Some, None, IfSome, IfNone, Bor, ap, ◌∙◌, arith}
use Rattle.std.specs.List.{after_last, suffix_len}
use Rattle.std.specs.Str.{NoCharPasses}
use Rattle.std.specs.Str.Pattern.{HasCharAt}
use Rattle.std.proofs.lemmas.Bool.{eq-eqb, ne_eqb, not_from_false}
use Rattle.std.proofs.lemmas.List.{get_or-drop, length-drop}
use Rattle.std.proofs.lemmas.List.Elements.{All-from_get_or}
use Rattle.std.proofs.lemmas.List.Sums.{suffix_len_is}
use Rattle.std.proofs.lemmas.Str.{len_utf8_ascii}
use Rattle.std.proofs.lemmas.Str.Pattern.{IsSplitOnceResult, NoCharPasses-char, split_parts}
use Rattle.ftp_facts.specs.Fact.{Lacks}
use Rattle.tool_location.specs.Location.{slash}

-- the parts round the first such octet, or that it lacks
pub parts_of : (c : ℕ) (text : List ℕ) (r : Option (Bor (List ℕ) × Bor (List ℕ))) → IsSplitOnceResult c text r → c < 128
    → IfSome r (λ parts. text ≡ parts.0.now ++ c ∷ parts.1.now) × IfSome r (λ parts. Lacks parts.0.now c) × IfNone r (Lacks text c)
parts_of c text None h low = (tt, tt, All-from_get_or (λ each. each ≢ c) text 0 (split_parts c text None h low))
parts_of c text (Some parts) h low =
    let both = split_parts c text (Some parts) h low in
    (both.0, All-from_get_or (λ each. each ≢ c) parts.0.now 0 both.1, tt)

-- a text without a slash ends in all of it
pub no_slash_last : (text : List ℕ) → NoCharPasses (λ d. d == slash) text → text ≡ after_last (λ octet. octet == slash) text
no_slash_last text h =
    let each : (k : ℕ) → 0 ≤ k → k < length text → not (get_or text k 0 == slash) ≡ true = λ k from below.
    not_from_false _ (ne_eqb (get_or text k 0) slash (NoCharPasses-char slash text k h (omega arith) below)) in
    let all : suffix_len (λ octet. not (octet == slash)) text ≡ length text - 0 =
    suffix_len_is (λ octet. not (octet == slash)) text 0 0 (omega arith) each (λ e. absurd (omega arith)) in
    let none : 0 ≡ length text - suffix_len (λ octet. not (octet == slash)) text = omega arith in
    ap (λ n. drop n text) none

-- and one with a slash in what stands behind the last
pub slash_last : (text : List ℕ) (i j : ℕ) → NoCharPasses (λ d. d == slash) (drop j text) → HasCharAt slash text i j → j ≤ length text
    → drop j text ≡ after_last (λ octet. octet == slash) text
slash_last text i j h at within =
    let next : j ≡ i + 1 = at.ends ∙ ap (λ n. i + n) (len_utf8_ascii slash (omega arith)) in
    let each : (k : ℕ) → j ≤ k → k < length text → not (get_or text k 0 == slash) ≡ true = λ k from below.
    let place : j + (k - j) ≡ k = omega arith in
    let there : get_or (drop j text) (k - j) 0 ≡ get_or text k 0 = get_or-drop j text (k - j) 0 ∙ ap (λ n. get_or text n 0) place in
    let fits : k - j < length (drop j text) = omega (arith, length-drop j text) in
    not_from_false _ (ne_eqb (get_or text k 0) slash (λ e. NoCharPasses-char slash (drop j text) (k - j) h (omega arith) fits (there ∙ e))) in
    let last : 0 < j → not (get_or text (j - 1) 0 == slash) ≡ false = λ some.
    let place : j - 1 ≡ i = omega arith in
    ap not (eq-eqb _ slash (ap (λ n. get_or text n 0) place ∙ at.byte (omega arith))) in
    let behind : suffix_len (λ octet. not (octet == slash)) text ≡ length text - j =
    suffix_len_is (λ octet. not (octet == slash)) text j 0 within each last in
    let same : j ≡ length text - suffix_len (λ octet. not (octet == slash)) text = omega arith in
    ap (λ n. drop n text) same
