-- Listings and actions for programs, as lines of JSON (RFC 8259; the names of members are own choices). A member whose fact is not told is left out.
use Rattle.std.specs.Prelude.{ℕ, ◌++◌, ◌/◌, ◌%◌, ◌==◌, ◌||◌, List, [], ◌∷◌, Option, Some, None, codes, decimal, flat_map, nat_lt, if◌then◌else◌}
use Rattle.ftp_facts.specs.declared.entry.Entry.{Entry}
use Rattle.ftp_facts.specs.declared.entry.EntryKind.{EntryKind}
use Rattle.ftp_facts.specs.declared.entry.EntryKind.TheVariants as Kinds
use Rattle.ftp_facts.specs.declared.moment.Moment.{Moment}
use Rattle.ftp_facts.specs.Moment.{moment_digits}
use Rattle.tool_terminal.specs.escaped.Shown.{digit, octets_shown}
use Rattle.tool_listing.specs.entries.Lines.{is_shown}
use Rattle.tool_listing.specs.entries.Name.{is_name}

-- an octet in a string (RFC 8259, section 7): a quotation mark, a backslash and control characters are escaped, any other stands as it is
abbrev pub octet_json : ℕ → List ℕ
octet_json octet =
    if (octet == 34) || (octet == 92) then 92 ∷ octet ∷ []
    else (if nat_lt octet 32 then 92 ∷ 117 ∷ 48 ∷ 48 ∷ digit (octet / 16) ∷ digit (octet % 16) ∷ [] else octet ∷ [])

-- a text as a string
abbrev pub string : List ℕ → List ℕ
string octets = codes "\"" ++ flat_map octet_json octets ++ codes "\""

-- fourteen digits as a moment in UTC (RFC 3339, section 5.6)
abbrev pub stamped : List ℕ → List ℕ
stamped (a ∷ b ∷ c ∷ d ∷ e ∷ f ∷ g ∷ h ∷ i ∷ j ∷ k ∷ l ∷ m ∷ n ∷ []) =
    a ∷ b ∷ c ∷ d ∷ 45 ∷ e ∷ f ∷ 45 ∷ g ∷ h ∷ 84 ∷ i ∷ j ∷ 58 ∷ k ∷ l ∷ 58 ∷ m ∷ n ∷ 90 ∷ []
stamped other = []

-- the type of an entry, by the words of a machine listing (RFC 3659, section 7.5.1); another word as it came
abbrev pub type_member : {A : Type 0} → Option (EntryKind A) → List ℕ
type_member (Some Kinds.File) = codes ",\"type\":\"file\""
type_member (Some Kinds.Dir) = codes ",\"type\":\"dir\""
type_member (Some Kinds.CurrentDir) = codes ",\"type\":\"cdir\""
type_member (Some Kinds.ParentDir) = codes ",\"type\":\"pdir\""
type_member (Some (Kinds.Other word)) = codes ",\"type\":" ++ string word
type_member None = []

abbrev pub size_member : Option ℕ → List ℕ
size_member (Some size) = codes ",\"size\":" ++ decimal size
size_member None = []

abbrev pub stamp_member : List ℕ → List ℕ
stamp_member stamp = codes ",\"modified\":\"" ++ stamp ++ codes "\""

abbrev pub modified_member : Option Moment → List ℕ
modified_member (Some moment) = stamp_member (stamped (moment_digits moment.seconds))
modified_member None = []

-- what may be done with it, as it came (RFC 3659, section 7.5.5)
abbrev pub perm_member : Option (List ℕ) → List ℕ
perm_member (Some perm) = codes ",\"perm\":" ++ string perm
perm_member None = []

-- the line of an entry
abbrev pub entry_line_json : {A : Type 0} → Entry A → List ℕ
entry_line_json entry =
    codes "{\"name\":" ++ string entry.name ++ type_member entry.kind ++ size_member entry.size ++ modified_member entry.modify
    ++ perm_member entry.perm ++ codes "}\n"

-- what is written of an entry: its line, where its name is one of a single file, and else nothing
abbrev pub entry_json : {A : Type 0} → Entry A → List ℕ
entry_json entry = if is_name entry.name then entry_line_json entry else []

-- the line of a name of which no fact is known
abbrev pub name_line_json : List ℕ → List ℕ
name_line_json name = codes "{\"name\":" ++ string name ++ codes "}\n"

-- what is written of a name
abbrev pub name_json : List ℕ → List ℕ → List ℕ
name_json path name = if is_shown path name then name_line_json name else []

-- the line of what is done of a path
abbrev pub action_json : (action path : List ℕ) → List ℕ
action_json action path = codes "{\"deed\":" ++ string action ++ codes ",\"path\":" ++ string path ++ codes "}\n"

-- a line that is no entry, as a terminal is to show it
abbrev pub line_json : List ℕ → List ℕ
line_json text = codes "{\"line\":" ++ (string (octets_shown text) ++ codes "}\n")
