-- What a pattern chooses of a listing, beside the files of `tool_listing` (own choice).
use Rattle.std.specs.Prelude.{ℕ, ◌&&◌, ◌++◌, ◌∷◌, [], Bool, true, false, List, if◌then◌else◌}
use Rattle.std.specs.List.{list_any}
use Rattle.ftp_facts.specs.declared.entry.Entry.{Entry}
use Rattle.ftp_facts.specs.Listed.{Listed}
use Rattle.ftp_facts.specs.Listing.{line_feed, lines_of}
use Rattle.ftp_operation.specs.declared.op.ListVerb.{ListVerb}
use Rattle.ftp_operation.specs.declared.op.ListVerb.TheVariants as Verbs
use Rattle.tool_listing.specs.declared.entries.item.ListedItem.{ListedItem}
use Rattle.tool_listing.specs.declared.entries.item.ItemKind.{ItemKind}
use Rattle.tool_listing.specs.declared.entries.item.ItemKind.TheVariants as Stands
use Rattle.tool_listing.specs.entries.Columns.{entries_of_columns}
use Rattle.tool_listing.specs.entries.Name.{is_name}
use Rattle.tool_listing.specs.entries.Text.{entries_of}
use Rattle.tool_listing.specs.pattern.Pattern.{matches}

-- a name that is shown: one of a single file or directory, and of the pattern
abbrev pub is_name_of : (pattern name : List ℕ) → Bool
is_name_of pattern name = is_name name && matches pattern name

-- an entry that is shown, whatever stands under its name
abbrev pub is_entry_of : {A : Type 0} → (pattern : List ℕ) → Entry A → Bool
is_entry_of pattern entry = is_name_of pattern entry.name

-- the same of what a line says
abbrev pub is_listed_of : (pattern : List ℕ) → Listed → Bool
is_listed_of pattern entry = is_name_of pattern entry.name

-- the entries that lines say: of MLSD (RFC 3659, section 7.2), or of LIST in columns
abbrev pub entries_by : ListVerb → List (List ℕ) → List Listed
entries_by Verbs.Mlsd lines = entries_of lines
entries_by verb lines = entries_of_columns lines

-- a line is shown for a pattern: it says an entry of it
abbrev pub is_line_of : ListVerb → (pattern line : List ℕ) → Bool
is_line_of verb pattern line = list_any (is_listed_of pattern) (entries_by verb (lines_of line))

-- what is kept of a line
abbrev pub chosen_line : ListVerb → (pattern line : List ℕ) → List ℕ
chosen_line verb pattern line = if is_line_of verb pattern line then line ++ line_feed ∷ [] else []

-- a directory
abbrev pub is_directory : ItemKind → Bool
is_directory Stands.Dir = true
is_directory kind = false

-- a directory of the pattern, of which nothing is fetched or removed
abbrev pub is_directory_of : {A : Type 0} → (pattern : List ℕ) → ListedItem A → Bool
is_directory_of pattern item = (is_directory item.kind && is_name item.name) && matches pattern item.name
