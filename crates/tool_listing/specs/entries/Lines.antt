-- Listings of a server as they are shown (own choice; RFC 3659, section 7, and RFC 959, section 4.1.3).
use Rattle.std.specs.Prelude.{ℕ, ◌==◌, ◌&&◌, ◌||◌, ◌++◌, Bool, not, nat_eq, List, [], ◌∷◌, length, drop, if◌then◌else◌}
use Rattle.std.specs.List.{starts_with}
use Rattle.ftp_facts.specs.declared.entry.Entry.{Entry}
use Rattle.ftp_facts.specs.Entry.{entry_line}
use Rattle.tool_terminal.specs.escaped.Shown.{octets_shown}
use Rattle.tool_listing.specs.entries.Name.{is_name}

-- a line: octets as they are shown, and LF
abbrev pub line : List ℕ → List ℕ
line octets = octets_shown octets ++ 10 ∷ []

-- what is shown of an entry: its line, where its name is one of a single file, and else nothing
abbrev pub shown_entry_text : {A : Type 0} → Entry A → List ℕ
shown_entry_text entry = if is_name entry.name then line (entry_line entry) else []

-- an entry that is left out
abbrev pub is_strange_entry : {A : Type 0} → Entry A → Bool
is_strange_entry entry = not (is_name entry.name)

-- octets without a slash at their front
abbrev pub without_slash : List ℕ → List ℕ
without_slash [] = []
without_slash (first ∷ rest) = if first == 47 then rest else first ∷ rest

-- a name that a server gives behind the path of the directory that is listed
abbrev pub is_below : List ℕ → List ℕ → Bool
is_below path name = not (length path == 0) && starts_with nat_eq name path && is_name (without_slash (drop (length path) name))

-- a name of a directory's listing: one of a single file, alone or behind the path of the directory
abbrev pub is_listed : List ℕ → List ℕ → Bool
is_listed path name = is_name name || is_below path name

-- the path itself, which some servers give of one that is a file
abbrev pub is_itself : List ℕ → List ℕ → Bool
is_itself path name = not (length path == 0) && starts_with nat_eq name path && length name == length path

-- a name that is shown: one of the listing of a directory, or that of the file at the path
abbrev pub is_shown : List ℕ → List ℕ → Bool
is_shown path name = is_listed path name || is_itself path name

-- what is shown of a name
abbrev pub name_text : List ℕ → List ℕ → List ℕ
name_text path name = if is_shown path name then line name else []

-- a name that is left out
abbrev pub is_strange_name : List ℕ → List ℕ → Bool
is_strange_name path name = not (is_shown path name)
