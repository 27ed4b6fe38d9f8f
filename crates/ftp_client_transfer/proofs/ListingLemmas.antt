-- The lines of a listing one after another, and what was read of them so far.
use Rattle.std.proofs.Common.{◌≡◌, ◌∙◌, ◌==◌, ◌<◌, ◌+◌, ◌-◌, ℕ, suc, Bool, true, false, List, [], ◌∷◌, ◌++◌, Option, Some, None, cond, not, length, take, drop, refl, sym, ap, arith}
use Rattle.std.proofs.Math.Seq.{take-length}
use Rattle.std.proofs.lemmas.Bool.{ne_eqb}
use Rattle.std.proofs.lemmas.List.{append_assoc, append-nil}
use Rattle.std.specs.List.{filter, onto_first, position_or_len, slice_split}
use Rattle.std.specs.Prelude.{if◌then◌else◌}
use Rattle.std.specs.Option.{option_map}
use Rattle.ftp_facts.specs.Listed.{Listed, entry_value}
use Rattle.ftp_facts.specs.Listing.{all_values, but_empty_last, entries_value, is_entry_shown, line_feed, lines_of}
use Rattle.ftp_facts.specs.Value.{and_then}
use Rattle.ftp_client_transfer.specs.Listing.{kept}

-- ---- lines

-- it ends a line
abbrev ends : ℕ → Bool
ends octet = octet == line_feed

-- the parts behind the first, of what stands from the first LF on
abbrev parts_from : List ℕ → List (List ℕ)
parts_from [] = []
parts_from (octet ∷ behind) = slice_split ends behind

first_part : (octets : List ℕ) → slice_split ends octets ≡ take (position_or_len ends octets) octets ∷ parts_from (drop (position_or_len ends octets) octets)
first_part [] = refl
first_part (x ∷ xs) = by (ends x) (first_part xs)
  where
    by : (b : Bool) → slice_split ends xs ≡ take (position_or_len ends xs) xs ∷ parts_from (drop (position_or_len ends xs) xs)
        → cond b ([] ∷ slice_split ends xs) (onto_first x (slice_split ends xs))
        ≡ take (cond (not b) (1 + position_or_len ends xs) 0) (x ∷ xs) ∷ parts_from (drop (cond (not b) (1 + position_or_len ends xs) 0) (x ∷ xs))
    by true is = refl
    by false is =
        let count = position_or_len ends xs in
        let more : suc count ≡ 1 + count = omega arith in
        ap (onto_first x) is ∙ ap (λ k. take k (x ∷ xs) ∷ parts_from (drop k (x ∷ xs))) more

-- the last line, which no LF ends
pub line_last : (octets line rest : List ℕ) → line ≡ take (position_or_len ends octets) octets → rest ≡ drop (position_or_len ends octets) octets
    → length rest < 1 → 0 < length line
    → lines_of octets ≡ line ∷ lines_of rest
line_last octets line (x ∷ rest) front back none some = absurd (omega (arith, none))
line_last octets [] [] front back none some = absurd (omega (arith, some))
line_last octets (x ∷ line) [] front back none some =
    ap but_empty_last (first_part octets)
    ∙ ap (λ rest. but_empty_last (take (position_or_len ends octets) octets ∷ parts_from rest)) (sym back)
    ∙ ap (λ first. but_empty_last (first ∷ [])) (sym front)
    ∙ ap (λ b. if b then [] else (x ∷ line) ∷ []) (ne_eqb (suc (length line)) 0 (λ same. absurd (omega (arith, same))))

line_behind : (octets line : List ℕ) (end : ℕ) (behind : List ℕ) → line ≡ take (position_or_len ends octets) octets
    → end ∷ behind ≡ drop (position_or_len ends octets) octets
    → lines_of octets ≡ line ∷ lines_of behind
line_behind octets line end behind front back =
    ap but_empty_last (first_part octets)
    ∙ ap (λ rest. but_empty_last (take (position_or_len ends octets) octets ∷ parts_from rest)) (sym back)
    ∙ ap (λ first. but_empty_last (first ∷ slice_split ends behind)) (sym front)
    ∙ ap (λ parts. but_empty_last (line ∷ parts)) (first_part behind)
    ∙ ap (λ parts. line ∷ but_empty_last parts) (sym (first_part behind))

all_behind : (end : ℕ) (behind : List ℕ) → take (length (end ∷ behind) - 1) (drop 1 (end ∷ behind)) ≡ behind
all_behind end behind =
    let less : suc (length behind) - 1 ≡ length behind = omega arith in
    ap (λ k. take k behind) less ∙ take-length behind

-- a line that an LF ends
pub line_ended : (octets line rest : List ℕ) → line ≡ take (position_or_len ends octets) octets → rest ≡ drop (position_or_len ends octets) octets
    → 0 < length rest
    → lines_of octets ≡ line ∷ lines_of (take (length rest - 1) (drop 1 rest))
line_ended octets line [] front back some = absurd (omega (arith, some))
line_ended octets line (end ∷ behind) front back some =
    line_behind octets line end behind front back ∙ ap (λ more. line ∷ lines_of more) (sym (all_behind end behind))

-- ---- what was read so far

-- these, and then what the rest says
abbrev pub with_rest : {V : Type 0} → List V → Option (List V) → Option (List V)
with_rest seen rest = option_map (λ more. seen ++ more) rest

-- a value more
with_next : {V : Type 0} (seen : List V) (value : V) (rest : Option (List V))
    → with_rest (seen ++ value ∷ []) rest ≡ with_rest seen (option_map (λ values. value ∷ values) rest)
with_next seen value None = refl
with_next seen value (Some more) = ap Some (append_assoc seen (value ∷ []) more)

shown_next : (entry : Listed) (rest : Option (List Listed)) → is_entry_shown entry ≡ true
    → option_map (filter is_entry_shown) (option_map (λ values. entry ∷ values) rest) ≡ option_map (λ values. entry ∷ values) (option_map (filter is_entry_shown) rest)
shown_next entry None is = refl
shown_next entry (Some values) is = ap (λ b. Some (cond b (entry ∷ filter is_entry_shown values) (filter is_entry_shown values))) is

hidden_next : (entry : Listed) (rest : Option (List Listed)) → is_entry_shown entry ≡ false
    → option_map (filter is_entry_shown) (option_map (λ values. entry ∷ values) rest) ≡ option_map (filter is_entry_shown) rest
hidden_next entry None is = refl
hidden_next entry (Some values) is = ap (λ b. Some (cond b (entry ∷ filter is_entry_shown values) (filter is_entry_shown values))) is

entries_next : (octets line behind : List ℕ) (said : Option Listed) → lines_of octets ≡ line ∷ lines_of behind → said ≡ entry_value line
    → entries_value octets
    ≡ option_map (filter is_entry_shown) (and_then said (λ value. option_map (λ values. value ∷ values) (all_values entry_value (lines_of behind))))
entries_next octets line behind said lines is =
    ap (λ all. option_map (filter is_entry_shown) (all_values entry_value all)) lines
    ∙ ap (λ first. option_map (filter is_entry_shown) (and_then first (λ value. option_map (λ values. value ∷ values) (all_values entry_value (lines_of behind))))) (sym is)

-- the entry of a line is kept
entry_shown : (seen : List Listed) (octets line behind : List ℕ) (entry : Listed) → lines_of octets ≡ line ∷ lines_of behind → Some entry ≡ entry_value line
    → is_entry_shown entry ≡ true
    → with_rest (seen ++ entry ∷ []) (entries_value behind) ≡ with_rest seen (entries_value octets)
entry_shown seen octets line behind entry lines is shown =
    with_next seen entry (entries_value behind)
    ∙ ap (with_rest seen) (sym (entries_next octets line behind (Some entry) lines is ∙ shown_next entry (all_values entry_value (lines_of behind)) shown))

-- or left out
entry_hidden : (seen : List Listed) (octets line behind : List ℕ) (entry : Listed) → lines_of octets ≡ line ∷ lines_of behind → Some entry ≡ entry_value line
    → is_entry_shown entry ≡ false
    → with_rest seen (entries_value behind) ≡ with_rest seen (entries_value octets)
entry_hidden seen octets line behind entry lines is hidden =
    ap (with_rest seen) (sym (entries_next octets line behind (Some entry) lines is ∙ hidden_next entry (all_values entry_value (lines_of behind)) hidden))

kept_by : (b : Bool) (seen : List Listed) (octets line behind : List ℕ) (entry : Listed) → lines_of octets ≡ line ∷ lines_of behind → Some entry ≡ entry_value line
    → is_entry_shown entry ≡ b
    → with_rest (if b then seen ++ entry ∷ [] else seen) (entries_value behind) ≡ with_rest seen (entries_value octets)
kept_by true seen octets line behind entry lines is shown = entry_shown seen octets line behind entry lines is shown
kept_by false seen octets line behind entry lines is hidden = entry_hidden seen octets line behind entry lines is hidden

-- either, by what it is
pub entry_kept : (seen : List Listed) (octets line behind : List ℕ) (entry : Listed) → lines_of octets ≡ line ∷ lines_of behind → Some entry ≡ entry_value line
    → with_rest (kept seen entry) (entries_value behind) ≡ with_rest seen (entries_value octets)
entry_kept seen octets line behind entry lines is = kept_by (is_entry_shown entry) seen octets line behind entry lines is refl

-- no line is left
pub all_entries : (seen : List Listed) (rest octets : List ℕ) → with_rest seen (entries_value rest) ≡ entries_value octets → length rest < 1
    → Some seen ≡ entries_value octets
all_entries seen [] octets is none = ap Some (sym (append-nil seen)) ∙ is
all_entries seen (x ∷ rest) octets is none = absurd (omega (arith, none))
