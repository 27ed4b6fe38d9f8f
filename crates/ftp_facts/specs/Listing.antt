-- The lines of a listing, and what all of them say (RFC 3659, section 7; RFC 959, section 4.1.3, NLST).
use Rattle.std.specs.Prelude.{ℕ, ◌==◌, ◌||◌, Bool, true, List, [], ◌∷◌, length, Option, Some, None, if◌then◌else◌, option_map}
use Rattle.std.specs.Bool.{then_some}
use Rattle.std.specs.List.{slice_split, filter}
use Rattle.ftp_path.specs.Path.{is_listed_text}
use Rattle.ftp_facts.specs.Fact.{is_word, file_word, dir_word}
use Rattle.ftp_facts.specs.Listed.{Listed, entry_value}
use Rattle.ftp_facts.specs.Value.{and_then}

-- the octet that ends a line of a listing: the receiver makes it of CR LF
abbrev pub line_feed : ℕ
line_feed = 10

-- without an empty line at the end
abbrev pub but_empty_last : List (List ℕ) → List (List ℕ)
but_empty_last [] = []
but_empty_last (last ∷ []) = if length last == 0 then [] else last ∷ []
but_empty_last (line ∷ next ∷ lines) = line ∷ but_empty_last (next ∷ lines)

-- the lines of a listing, each ended by LF; own choice: a last line without an end counts
abbrev pub lines_of : List ℕ → List (List ℕ)
lines_of octets = but_empty_last (slice_split (λ octet. octet == line_feed) octets)

-- the values of all texts, where each has one
abbrev pub all_values : {V : Type 0} → (List ℕ → Option V) → List (List ℕ) → Option (List V)
all_values f [] = Some []
all_values f (text ∷ texts) = and_then (f text) (λ value. option_map (λ values. value ∷ values) (all_values f texts))

-- a file, a directory, or of no type that is given
abbrev pub is_shown_kind : Option (List ℕ) → Bool
is_shown_kind None = true
is_shown_kind (Some word) = is_word word file_word || is_word word dir_word

-- own choice: entries of the directory itself, of its parent and of types of another word are left out
abbrev pub is_entry_shown : Listed → Bool
is_entry_shown entry = is_shown_kind entry.kind

-- the entries of a machine listing, one a line, where each line says one (RFC 3659, section 7)
abbrev pub entries_value : List ℕ → Option (List Listed)
entries_value octets = option_map (filter is_entry_shown) (all_values entry_value (lines_of octets))

-- a line of a listing of names; own choice: it has to be a text as a pathname is, of any length, so an empty one is no name
abbrev pub name_value : List ℕ → Option (List ℕ)
name_value line = then_some (is_listed_text line) line

-- the pathnames of a listing of names, one a line (RFC 959, section 4.1.3, NLST)
abbrev pub names_value : List ℕ → Option (List (List ℕ))
names_value octets = all_values name_value (lines_of octets)
