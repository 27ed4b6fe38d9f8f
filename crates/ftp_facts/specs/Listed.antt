-- The entry that a line of a machine listing says: facts, SP and a pathname (RFC 3659, section 7.2).
use Rattle.std.specs.Prelude.{ℕ, ◌==◌, ◌&&◌, Bool, List, [], ◌∷◌, length, Option, Some, None, decimal, if◌then◌else◌, option_map}
use Rattle.std.specs.Bool.{then_some}
use Rattle.std.specs.List.{list_any, before_first, after_first, slice_split}
use Rattle.ftp_path.specs.Path.{is_path_text}
use Rattle.ftp_facts.specs.Fact.{Fact, first_value, is_word, file_word, dir_word, current_word, parent_word, equals, semicolon}
use Rattle.ftp_facts.specs.Moment.{moment_digits, moment_value}
use Rattle.ftp_facts.specs.Name.{fact_word}
use Rattle.ftp_facts.specs.Value.{and_then, is_space, number_value}
use Rattle.ftp_facts.specs.declared.name.FactName.{FactName}
use Rattle.ftp_facts.specs.declared.name.FactName.TheVariants.{Kind, Size, Modify, Perm}

-- an entry as a value: its name, and the facts that are given (RFC 3659, section 7)
pub record Listed : Type 0 where
  pub name : List ℕ
  pub kind : Option (List ℕ)
  pub size : Option ℕ
  pub modify : Option ℕ
  pub perm : Option (List ℕ)

-- the text of a fact of an entry, where it has one: a size in decimal, a moment by its fourteen digits
abbrev pub fact_text_in : Listed → FactName → Option (List ℕ)
fact_text_in entry Kind = entry.kind
fact_text_in entry Size = option_map decimal entry.size
fact_text_in entry Modify = option_map moment_digits entry.modify
fact_text_in entry Perm = entry.perm

-- ---- facts

-- it stands between a fact's name and its value
abbrev pub is_equals : ℕ → Bool
is_equals octet = octet == equals

-- it ends a fact
abbrev pub is_semicolon : ℕ → Bool
is_semicolon octet = octet == semicolon

-- a fact, cut at its first `=`
abbrev pub fact_of : List ℕ → Fact
fact_of text = record { name = before_first is_equals text; value = after_first is_equals text }

-- the facts of pieces that were cut at each `;`: nothing stands behind the last
abbrev pub read_facts : List (List ℕ) → Option (List Fact)
read_facts [] = None
read_facts (last ∷ []) = then_some (length last == 0) []
read_facts (piece ∷ next ∷ pieces) =
    and_then (then_some (list_any is_equals piece) (fact_of piece)) (λ fact. option_map (λ facts. fact ∷ facts) (read_facts (next ∷ pieces)))

-- a fact that is left out says nothing, and one that is there has to say a value
abbrev pub fact_value : {V : Type 0} → (List ℕ → Option V) → Option (List ℕ) → Option (Option V)
fact_value f None = Some None
fact_value f (Some text) = option_map Some (f text)

-- the type that a value names: one of the four words, whose letters have no case, or another
abbrev pub kind_word : List ℕ → List ℕ
kind_word value =
    if is_word value file_word then file_word
    else (if is_word value dir_word then dir_word
    else (if is_word value current_word then current_word else (if is_word value parent_word then parent_word else value)))

-- ---- entries

-- an entry with these facts, its size and its moment
abbrev pub listed_as : List ℕ → List Fact → Option ℕ → Option ℕ → Listed
listed_as name facts size modify = record {
  name = name;
  kind = option_map kind_word (first_value (fact_word Kind) facts);
  size = size;
  modify = modify;
  perm = first_value (fact_word Perm) facts;
}

-- the same, where its Size and its Modify say values or are left out
abbrev pub listed_by : List ℕ → List Fact → Option Listed
listed_by name facts =
    and_then (fact_value number_value (first_value (fact_word Size) facts)) (λ size.
    option_map (listed_as name facts size) (fact_value moment_value (first_value (fact_word Modify) facts)))

-- facts, SP and a pathname that is a path text: the first SP ends the facts
abbrev pub has_entry : List ℕ → Bool
has_entry line = list_any is_space line && is_path_text (after_first is_space line)

-- the entry that a line says
unfoldable pub entry_value : List ℕ → Option Listed
entry_value line =
    and_then (then_some (has_entry line) (slice_split is_semicolon (before_first is_space line))) (λ pieces.
    and_then (read_facts pieces) (listed_by (after_first is_space line)))
