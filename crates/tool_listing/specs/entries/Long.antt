-- A listing for people: a line an entry, with its kind, size, moment and name (own choice; RFC 3659, section 7).
use Rattle.std.specs.Prelude.{ℕ, ◌++◌, List, [], ◌∷◌, Option, Some, None, codes, decimal, drop, length, if◌then◌else◌}
use Rattle.ftp_facts.specs.declared.entry.Entry.{Entry}
use Rattle.ftp_facts.specs.declared.entry.EntryKind.{EntryKind}
use Rattle.ftp_facts.specs.declared.entry.EntryKind.TheVariants as Kinds
use Rattle.ftp_facts.specs.declared.moment.Moment.{Moment}
use Rattle.ftp_facts.specs.Moment.{moment_digits}
use Rattle.tool_listing.specs.entries.Lines.{line}
use Rattle.tool_listing.specs.entries.Name.{is_name}

-- the letter of a kind: `-` for a file, `d` for a directory, `?` for any other and where none is told
abbrev pub kind_letter : {A : Type 0} → Option (EntryKind A) → ℕ
kind_letter (Some Kinds.File) = 45
kind_letter (Some Kinds.Dir) = 100
kind_letter (Some Kinds.CurrentDir) = 100
kind_letter (Some Kinds.ParentDir) = 100
kind_letter (Some (Kinds.Other word)) = 63
kind_letter None = 63

-- a size in digits, or `-` where none is told
abbrev pub size_text : Option ℕ → List ℕ
size_text (Some size) = decimal size
size_text None = codes "-"

-- fourteen digits as a date and a time of day
abbrev pub dated : List ℕ → List ℕ
dated (a ∷ b ∷ c ∷ d ∷ e ∷ f ∷ g ∷ h ∷ i ∷ j ∷ k ∷ l ∷ m ∷ n ∷ []) =
    a ∷ b ∷ c ∷ d ∷ 45 ∷ e ∷ f ∷ 45 ∷ g ∷ h ∷ 32 ∷ i ∷ j ∷ 58 ∷ k ∷ l ∷ 58 ∷ m ∷ n ∷ []
dated other = []

-- a moment in UTC, or `-` where none is told
abbrev pub moment_column : Option Moment → List ℕ
moment_column (Some moment) = dated (moment_digits moment.seconds)
moment_column None = codes "-"

-- a text at the right end of a column as wide as these blanks; one that is wider has no blank before it
abbrev pub column : (blanks text : List ℕ) → List ℕ
column blanks text = drop (length text) blanks ++ text

-- what stands before the name of an entry: its kind, its size at the right end of 15 columns, and its moment of 19
abbrev pub columns : {A : Type 0} → Entry A → List ℕ
columns entry =
    (kind_letter entry.kind ∷ []) ++ column (codes "               ") (size_text entry.size)
    ++ codes "  " ++ column (codes "                   ") (moment_column entry.modify) ++ codes "  "

-- the line of an entry: its columns and its name, and LF
abbrev pub long_line : {A : Type 0} → Entry A → List ℕ
long_line entry = columns entry ++ line entry.name

-- what is shown of an entry: its line, where its name is one of a single file, and else nothing
abbrev pub long_text : {A : Type 0} → Entry A → List ℕ
long_text entry = if is_name entry.name then long_line entry else []
