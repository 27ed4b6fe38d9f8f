-- What stands in a directory, as entries and as names, and the lines by which LIST, NLST and MLSD tell it (RFC 959, section 4.1.3; RFC 1123, section
-- 4.1.2.7; RFC 3659, section 7).
use Rattle.std.specs.Prelude.{ℕ, ◌+◌, ◌-◌, ◌*◌, ◌/◌, ◌==◌, ◌&&◌, ◌||◌, Bool, true, false, nat_eq, codes, decimal, List, [], ◌∷◌, ◌++◌, length, take, drop, map, replicate, Option, Some, None, if◌then◌else◌}
use Rattle.std.specs.Option.{unwrap_or}
use Rattle.std.specs.List.{filter_map, flat_map, ends_with}
use Rattle.ftp_path.specs.Path.{fits, Names}
use Rattle.ftp_facts.specs.Calendar.{year_and_place, month_and_place}
use Rattle.ftp_facts.specs.declared.entry.Entry.{Entry}
use Rattle.ftp_facts.specs.Entry.{entry_line}
use Rattle.ftp_facts.specs.Fact.{dir_word, file_word}
use Rattle.ftp_facts.specs.Line.{listed_line}
use Rattle.ftp_facts.specs.Moment.{four_digits}
use Rattle.ftp_facts.specs.Name.{all_facts}
use Rattle.ftp_tree.specs.Map.{Node, Dir, File, shown_of}
use Rattle.ftp_tree.specs.Tree.{Table, node_at, children}
use Rattle.ftp_operation.specs.Answer.{Listed}
use Rattle.ftp_operation.specs.Operation.{is_number}
use Rattle.ftp_operation.specs.declared.op.ListVerb.{ListVerb}
use Rattle.ftp_operation.specs.declared.op.ListVerb.TheVariants as Verbs

-- a file stands there
abbrev pub is_file : Option Node → Bool
is_file None = false
is_file (Some Dir) = false
is_file (Some (File octets moment)) = true

-- ---- entries and names

-- a size that can be said; a longer one is left out (own choice)
abbrev pub size_fact : ℕ → Option ℕ
size_fact count = if is_number count then Some count else None

-- the path is the root
abbrev pub is_root : Names → Bool
is_root [] = true
is_root (name ∷ names) = false

-- The entry, under a name, of a file by its octets counted and its moment, or of a directory, which may be the root (RFC 3659, section 7.5;
-- which facts are given, and the permissions, are own choices).
abbrev pub entry_of : Option (ℕ × ℕ) → Bool → List ℕ → Listed
entry_of (Some (size, moment)) at_root name =
    record { name = name; kind = Some file_word; size = size_fact size; modify = Some moment; perm = Some (codes "adfrw") }
entry_of None at_root name =
    record { name = name; kind = Some dir_word; size = None; modify = None; perm = Some (if at_root then codes "celmp" else codes "cdeflmp") }

-- the entry of what stands at a path, under a name
abbrev pub listed : List ℕ → Names → Node → Listed
listed name path node = entry_of (shown_of node) (is_root path) name

unfoldable pub entry_at : Table → Names → List ℕ → Listed
entry_at table path name = listed name path (unwrap_or (node_at table path) Dir)

-- the path of a name in a directory
abbrev pub child : Names → List ℕ → Names
child path name = path ++ name ∷ []

-- the entry of a name in a directory; nothing is said of a path past the limits of paths
abbrev pub entry_in : Table → Names → List ℕ → Option Listed
entry_in table path name = if fits (child path name) then Some (entry_at table (child path name) name) else None

-- the entries of a directory, in the order of the octets of their names
unfoldable pub entries_in : Table → Names → List Listed
entries_in table path = filter_map (entry_in table path) (children table path)

-- a name behind the text that names its directory, with a `/` between them
abbrev pub behind : List ℕ → List ℕ → List ℕ
behind text name = if (length text == 0) || ends_with nat_eq text (47 ∷ []) then text ++ name else text ++ 47 ∷ name

-- the pathname of a file in a directory; nothing is said of a path past the limits of paths
abbrev pub file_in : Table → Names → List ℕ → List ℕ → Option (List ℕ)
file_in table path text name = if fits (child path name) && is_file (node_at table (child path name)) then Some (behind text name) else None

-- pathnames that can be used as arguments: the one of a file, or those of the files of a directory in the order of the octets of
-- their names (RFC 1123, section 4.1.2.7)
unfoldable pub names_for : Table → Names → List ℕ → List (List ℕ)
names_for table path text = if is_file (node_at table path) then text ∷ [] else filter_map (file_in table path text) (children table path)

-- ---- lines as a file

-- a line of a text file: LF ends it
abbrev pub text_line : List ℕ → List ℕ
text_line line = line ++ 10 ∷ []

-- lines as a file, each ended by LF
abbrev pub lines_file : List (List ℕ) → List ℕ
lines_file lines = flat_map text_line lines

-- an entry as it is held, as a line of MLSD with all facts
abbrev pub entry_text : {A : Type 0} → Entry A → List ℕ
entry_text entry = text_line (entry_line entry)

-- ---- LIST: lines as many clients read them (own choice)

-- a text with spaces before it, as wide as this
abbrev pub right_in : ℕ → List ℕ → List ℕ
right_in width text = replicate (width - length text) 32 ++ text

-- a month, counted from 1, in three letters
abbrev pub month_word : ℕ → List ℕ
month_word month = take 3 (drop (3 * (month - 1)) (codes "JanFebMarAprMayJunJulAugSepOctNovDec"))

-- a month and a day of it, counted from 0
abbrev pub month_text : ℕ → ℕ × ℕ → List ℕ
month_text year day = 32 ∷ (month_word day.0 ++ 32 ∷ (right_in 2 (decimal (day.1 + 1)) ++ 32 ∷ 32 ∷ four_digits year))

-- a day of a year, counted from 0
abbrev pub day_text : ℕ × ℕ → List ℕ
day_text day = month_text day.0 (month_and_place 11 day.0 1 day.1)

-- the date of a moment, in UTC
abbrev pub date_text : ℕ → List ℕ
date_text moment = day_text (year_and_place 10_000 1970 (moment / 86_400))

-- kind and rights, then the size in ten places, the date and the name
abbrev pub list_line : List ℕ → ℕ → ℕ → List ℕ → List ℕ
list_line rights count moment name =
    rights ++ (codes " 1 ftp ftp " ++ (right_in 10 (decimal count) ++ (date_text moment ++ 32 ∷ name)))

-- a file or a directory, in the columns that clients know from Unix
abbrev pub node_line : List ℕ → Node → List ℕ
node_line name (File octets moment) = list_line (codes "-rw-r--r--") (length octets) moment name
node_line name Dir = list_line (codes "drwxr-xr-x") 0 0 name

-- the line of a name in a directory; nothing is said of a path past the limits of paths (own choice)
abbrev pub child_line : Table → Names → List ℕ → Option (List ℕ)
child_line table path name = if fits (child path name) then Some (node_line name (unwrap_or (node_at table (child path name)) Dir)) else None

-- the last component of a path
abbrev pub last_name : Names → List ℕ
last_name [] = []
last_name (name ∷ []) = name
last_name (name ∷ next ∷ names) = last_name (next ∷ names)

-- a line for each name of a directory, in the order of their octets, or the one of a file
abbrev pub list_lines_at : Option Node → Table → Names → List (List ℕ)
list_lines_at (Some (File octets moment)) table path = node_line (last_name path) (File octets moment) ∷ []
list_lines_at (Some Dir) table path = filter_map (child_line table path) (children table path)
list_lines_at None table path = []

-- LIST: the lines of what stands at a path
abbrev pub list_lines : Table → Names → List (List ℕ)
list_lines table path = list_lines_at (node_at table path) table path

-- ---- a listing as text

-- the lines that a command gives of what stands at a path which a text names: MLSD with all facts, NLST pathnames that begin as the text does
abbrev pub lines_for : ListVerb → Table → Names → List ℕ → List (List ℕ)
lines_for Verbs.Mlsd table path text = map (listed_line all_facts) (entries_in table path)
lines_for Verbs.List table path text = list_lines table path
lines_for Verbs.Nlst table path text = names_for table path text

-- the file that a command gives
abbrev pub listing_file : ListVerb → Table → Names → List ℕ → List ℕ
listing_file verb table path text = lines_file (lines_for verb table path text)
