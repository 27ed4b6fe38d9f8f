-- Which lines a listing has, entry by entry (RFC 959, section 4.1.3; RFC 1123, section 4.1.2.7; RFC 3659, section 7).
use Rattle.std.specs.Prelude.{◌≡◌, ℕ, false, List, [], ◌++◌, codes, drop, Option, Some, None, if◌then◌else◌}
use Rattle.std.specs.List.{filter_map}
use Rattle.ftp_path.specs.Path.{Names, fits}
use Rattle.ftp_tree.specs.Tree.{Table}
use Rattle.ftp_operation.specs.Answer.{Listed}
use Rattle.ftp_direct.specs.Direct.{behind, child, entry_of}
use Rattle.ftp_server_model.specs.Entries.{listed_line}
use Rattle.ftp_server_model.specs.Listing.{text_line, list_line, list_lines, name_lines, entry_lines}
use Rattle.ftp_server_transfer.specs.declared.line.What.{What}
use Rattle.ftp_server_transfer.specs.declared.line.What.TheVariants as Whats

-- the lines of what stands at a path
abbrev pub lines_of : {A : Type 0} → What A → Table → Names → List (List ℕ)
lines_of Whats.Lines table path = list_lines table path
lines_of (Whats.Names text) table path = name_lines table path text
lines_of (Whats.Entries facts) table path = entry_lines facts table path

-- ---- an entry of a directory: its name and, of a file, its octets counted and its moment

-- LIST: kind and rights, the size, the date and the name
abbrev pub columns_of : List ℕ × Option (ℕ × ℕ) → List ℕ
columns_of (name, None) = list_line (codes "drwxr-xr-x") 0 0 name
columns_of (name, Some (size, moment)) = list_line (codes "-rw-r--r--") size moment name

-- NLST: the pathname, where it is a file's, behind the text that names the directory
abbrev pub pathname_of : List ℕ → List ℕ × Option (ℕ × ℕ) → Option (List ℕ)
pathname_of text (name, None) = None
pathname_of text (name, Some file) = Some (behind text name)

-- MLSD: its facts, of which those in force are said; it is not the root
abbrev pub entry_facts : List ℕ × Option (ℕ × ℕ) → Listed
entry_facts entry = entry_of entry.1 false entry.0

-- its line, where it has one
abbrev pub shown_line : {A : Type 0} → What A → List ℕ × Option (ℕ × ℕ) → Option (List ℕ)
shown_line Whats.Lines entry = Some (columns_of entry)
shown_line (Whats.Names text) entry = pathname_of text entry
shown_line (Whats.Entries facts) entry = Some (listed_line facts (entry_facts entry))

-- the same in the directory at a path; nothing is said of a path past the limits of paths
abbrev pub line_of_entry : {A : Type 0} → What A → Names → List ℕ × Option (ℕ × ℕ) → Option (List ℕ)
line_of_entry what path entry = if fits (child path entry.0) then shown_line what entry else None

-- the lines of the entries from a place on; none where there is no such place
abbrev pub lines_from : {A : Type 0} → What A → Names → List (List ℕ × Option (ℕ × ℕ)) → Option ℕ → List (List ℕ)
lines_from what path entries None = []
lines_from what path entries (Some place) = filter_map (line_of_entry what path) (drop place entries)

-- the line was put behind the octets, with LF behind it, or there is none
abbrev pub PutsLine : Option (List ℕ) → List ℕ → List ℕ → Type 0
PutsLine None old new = new ≡ old
PutsLine (Some line) old new = new ≡ old ++ text_line line
