-- The entries that lines of LIST say in the columns of `ls -l` (own choice; RFC 959, section 4.1.3, leaves the form open).
use Rattle.std.specs.Prelude.{ℕ, ◌&&◌, ◌||◌, Bool, not, nat_eq, is_none, codes, List, filter, Option, Some, None}
use Rattle.std.specs.Bool.{then_some}
use Rattle.std.specs.Cmp.Lexicographic.{pointwise}
use Rattle.std.specs.List.{filter_map}
use Rattle.ftp_facts.specs.Fact.{dir_word, file_word}
use Rattle.ftp_facts.specs.Listed.{Listed}
use Rattle.ftp_facts.specs.Value.{and_then}
use Rattle.ftp_path.specs.Path.{is_path_text}
use Rattle.tool_listing.specs.declared.entries.unix_entry.UnixKind.{UnixKind}
use Rattle.tool_listing.specs.declared.entries.unix_entry.UnixKind.TheVariants as Kinds
use Rattle.tool_listing.specs.entries.Text.{is_total}
use Rattle.tool_listing.specs.entries.UnixLine.{Told, unix_value}

-- the type of what stands there; a link, a pipe and a device have none
abbrev pub type_told : UnixKind → Option (List ℕ)
type_told Kinds.File = Some file_word
type_told Kinds.Dir = Some dir_word
type_told kind = None

-- the octets of a file; what else stands there has none
abbrev pub size_told : UnixKind → ℕ → Option ℕ
size_told Kinds.File size = Some size
size_told kind size = None

-- the entry that a line tells: no moment, since a line has a day, or a time without its year
abbrev pub entry_told : Told → Listed
entry_told line = record { name = line.name; kind = type_told line.kind; size = size_told line.kind line.size; modify = None; perm = None }

-- the entry that a line says, where its name is a text as a pathname is
abbrev pub column_value : List ℕ → Option Listed
column_value line = and_then (unix_value line) (λ told. then_some (is_path_text told.name) (entry_told told))

-- the name of the directory itself, or of its parent
abbrev pub is_dots : List ℕ → Bool
is_dots name = pointwise nat_eq name (codes ".") || pointwise nat_eq name (codes "..")

-- an entry but those of the directory itself and of its parent
abbrev pub is_below : Listed → Bool
is_below entry = not (is_dots entry.name)

-- those, of all lines
abbrev pub entries_of_columns : List (List ℕ) → List Listed
entries_of_columns lines = filter is_below (filter_map column_value lines)

-- a line that says no entry, and does not count blocks
abbrev pub says_no_column : List ℕ → Bool
says_no_column line = is_none (column_value line) && not (is_total line)

-- those, as they came
abbrev pub lines_without_column : List (List ℕ) → List (List ℕ)
lines_without_column lines = filter says_no_column lines
