-- The lines of a listing one after another, and what they say so far.
use Rattle.std.proofs.Common.{◌≡◌, ◌≢◌, ◌∙◌, ◌==◌, ◌<◌, ◌+◌, ◌-◌, ℕ, suc, Bool, true, false, List, [], ◌∷◌, ◌++◌, Option, Some, None, cond, not, length, take, drop, refl, sym, ap, arith}
use Rattle.std.proofs.Math.Seq.{take-length}
use Rattle.std.proofs.lemmas.Bool.{ne_eqb}
use Rattle.std.proofs.lemmas.List.{append_assoc, append-nil}
use Rattle.std.proofs.lemmas.List.Elements.{filter-append, filter_map-append}
use Rattle.std.specs.List.{filter, filter_map, onto_first, position_or_len, slice_split}
use Rattle.std.specs.Prelude.{if◌then◌else◌}
use Rattle.ftp_facts.proofs.Theorems.{Refuses-same}
use Rattle.ftp_facts.specs.Entry.{Refuses}
use Rattle.ftp_facts.specs.Listed.{Listed, entry_value}
use Rattle.ftp_facts.specs.Listing.{but_empty_last, is_entry_shown, line_feed, lines_of}
use Rattle.ftp_facts.specs.declared.fault.FactFault.{FactFault}
use Rattle.ftp_facts.specs.declared.fault.FactFault.TheVariants.{Memory}
use Rattle.tool_listing.specs.entries.Columns.{column_value, entries_of_columns, is_below, lines_without_column, says_no_column}
use Rattle.tool_listing.specs.entries.Text.{entries_of, says_no_entry, lines_without_entry}

-- ---- lines

-- it ends a line
abbrev ends : ℕ → Bool
ends octet = octet == line_feed

-- the parts behind the first, of what stands from the first LF on
abbrev parts_from : List ℕ → List (List ℕ)
parts_from [] = []
parts_from (octet ∷ behind) = slice_split ends behind

first_part : (octets : List ℕ) → slice_split ends octets ≡ take (position_or_len ends octets) octets ∷ parts_from (drop (position_or_len ends octets) octets)
first_part [] = refl
first_part (x ∷ xs) = by (ends x) (first_part xs)
  where
    by : (b : Bool) → slice_split ends xs ≡ take (position_or_len ends xs) xs ∷ parts_from (drop (position_or_len ends xs) xs)
        → cond b ([] ∷ slice_split ends xs) (onto_first x (slice_split ends xs))
        ≡ take (cond (not b) (1 + position_or_len ends xs) 0) (x ∷ xs) ∷ parts_from (drop (cond (not b) (1 + position_or_len ends xs) 0) (x ∷ xs))
    by true is = refl
    by false is =
        let count = position_or_len ends xs in
        let more : suc count ≡ 1 + count = omega arith in
        ap (onto_first x) is ∙ ap (λ k. take k (x ∷ xs) ∷ parts_from (drop k (x ∷ xs))) more

-- the last line, which no LF ends
pub line_last : (octets line rest : List ℕ) → line ≡ take (position_or_len ends octets) octets → rest ≡ drop (position_or_len ends octets) octets
    → length rest < 1 → 0 < length line
    → lines_of octets ≡ line ∷ lines_of rest
line_last octets line (x ∷ rest) front back none some = absurd (omega (arith, none))
line_last octets [] [] front back none some = absurd (omega (arith, some))
line_last octets (x ∷ line) [] front back none some =
    ap but_empty_last (first_part octets)
    ∙ ap (λ rest. but_empty_last (take (position_or_len ends octets) octets ∷ parts_from rest)) (sym back)
    ∙ ap (λ first. but_empty_last (first ∷ [])) (sym front)
    ∙ ap (λ b. if b then [] else (x ∷ line) ∷ []) (ne_eqb (suc (length line)) 0 (λ same. absurd (omega (arith, same))))

line_behind : (octets line : List ℕ) (end : ℕ) (behind : List ℕ) → line ≡ take (position_or_len ends octets) octets
    → end ∷ behind ≡ drop (position_or_len ends octets) octets
    → lines_of octets ≡ line ∷ lines_of behind
line_behind octets line end behind front back =
    ap but_empty_last (first_part octets)
    ∙ ap (λ rest. but_empty_last (take (position_or_len ends octets) octets ∷ parts_from rest)) (sym back)
    ∙ ap (λ first. but_empty_last (first ∷ slice_split ends behind)) (sym front)
    ∙ ap (λ parts. but_empty_last (line ∷ parts)) (first_part behind)
    ∙ ap (λ parts. line ∷ but_empty_last parts) (sym (first_part behind))

all_behind : (end : ℕ) (behind : List ℕ) → take (length (end ∷ behind) - 1) (drop 1 (end ∷ behind)) ≡ behind
all_behind end behind =
    let less : suc (length behind) - 1 ≡ length behind = omega arith in
    ap (λ k. take k behind) less ∙ take-length behind

-- a line that an LF ends
pub line_ended : (octets line rest : List ℕ) → line ≡ take (position_or_len ends octets) octets → rest ≡ drop (position_or_len ends octets) octets
    → 0 < length rest
    → lines_of octets ≡ line ∷ lines_of (take (length rest - 1) (drop 1 rest))
line_ended octets line [] front back some = absurd (omega (arith, some))
line_ended octets line (end ∷ behind) front back some =
    line_behind octets line end behind front back ∙ ap (λ more. line ∷ lines_of more) (sym (all_behind end behind))

-- ---- one line

no_entry : (line : List ℕ) (fault : FactFault) (entry : Option Listed) → entry_value line ≡ entry → Refuses line fault → fault ≢ Memory → entry ≡ None
no_entry line fault None is refuses other = refl
no_entry line fault (Some entry) is refuses other = absurd (other (Refuses-same line fault Memory refuses (entry, is)))

-- a line that is refused for another reason than want of memory says no entry
pub says_none : (line : List ℕ) (fault : FactFault) → Refuses line fault → fault ≢ Memory → entry_value line ≡ None
says_none line fault refuses other = no_entry line fault (entry_value line) refl refuses other

-- ---- what was read so far

-- what lines say is said one line after another
pub entries_cut : (line : List ℕ) (lines : List (List ℕ)) → entries_of (line ∷ lines) ≡ entries_of (line ∷ []) ++ entries_of lines
entries_cut line lines =
    ap (filter is_entry_shown) (filter_map-append entry_value (line ∷ []) lines)
    ∙ filter-append is_entry_shown (filter_map entry_value (line ∷ [])) (filter_map entry_value lines)

pub odd_cut : (line : List ℕ) (lines : List (List ℕ)) → lines_without_entry (line ∷ lines) ≡ lines_without_entry (line ∷ []) ++ lines_without_entry lines
odd_cut line lines = filter-append says_no_entry (line ∷ []) lines

-- the same of lines in columns
pub columns_cut : (line : List ℕ) (lines : List (List ℕ)) → entries_of_columns (line ∷ lines) ≡ entries_of_columns (line ∷ []) ++ entries_of_columns lines
columns_cut line lines =
    ap (filter is_below) (filter_map-append column_value (line ∷ []) lines)
    ∙ filter-append is_below (filter_map column_value (line ∷ [])) (filter_map column_value lines)

pub odd_columns_cut : (line : List ℕ) (lines : List (List ℕ)) → lines_without_column (line ∷ lines) ≡ lines_without_column (line ∷ []) ++ lines_without_column lines
odd_columns_cut line lines = filter-append says_no_column (line ∷ []) lines

-- one line more
pub line_more : {X : Type 0} (f : List (List ℕ) → List X) → ((line : List ℕ) (lines : List (List ℕ)) → f (line ∷ lines) ≡ f (line ∷ []) ++ f lines)
    → (seen new all : List X) (rest line behind : List ℕ) → lines_of rest ≡ line ∷ lines_of behind → new ≡ seen ++ f (line ∷ [])
    → seen ++ f (lines_of rest) ≡ all → new ++ f (lines_of behind) ≡ all
line_more f cut seen new all rest line behind lines is so =
    ap (λ xs. xs ++ f (lines_of behind)) is ∙ append_assoc seen (f (line ∷ [])) (f (lines_of behind))
    ∙ ap (λ xs. seen ++ xs) (sym (cut line (lines_of behind)) ∙ ap f (sym lines)) ∙ so

-- no line is left
pub none_left : {X : Type 0} (f : List (List ℕ) → List X) → f [] ≡ [] → (seen all : List X) (rest : List ℕ) → length rest < 1
    → seen ++ f (lines_of rest) ≡ all → seen ≡ all
none_left f none seen all [] short so = sym (append-nil seen) ∙ ap (λ xs. seen ++ xs) (sym none) ∙ so
none_left f none seen all (x ∷ rest) short so = absurd (omega (arith, short))
