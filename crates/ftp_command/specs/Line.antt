-- The line that is written for a command, and the commands that have one.
use Rattle.std.specs.Prelude.{◌≡◌, ◌+◌, ◌≤◌, ◌==◌, ℕ, Bool, false, not, List, [], ◌∷◌, ◌++◌, length, count_by, decimal, IsTrue, Option, Some, None, codes}
use Rattle.std.specs.List.{list_all}
use Rattle.ftp_path.specs.Path.{IsPathText}
use Rattle.ftp_command.specs.Argument.{IsName, IsPassword, begins_with, hyphen, trimmed}
use Rattle.ftp_command.specs.Command.{value_of, verb_of}
use Rattle.ftp_command.specs.Verb.{letters}
use Rattle.ftp_command.specs.declared.command.Command.{Command}
use Rattle.ftp_settings.specs.declared.representation.Kind.{Kind}
use Rattle.ftp_settings.specs.declared.representation.Kind.TheVariants.{Ascii, Image}
use Rattle.ftp_settings.specs.declared.representation.Mode.{Mode}
use Rattle.ftp_settings.specs.declared.representation.Mode.TheVariants.{Stream, Block}
use Rattle.ftp_command.specs.declared.value.Value.{Value}
use Rattle.ftp_command.specs.declared.value.Value.TheVariants as value
use Rattle.ftp_command.specs.declared.command.Passive.{Passive}
use Rattle.ftp_command.specs.declared.command.Passive.TheVariants.{Any, Ipv4, Ipv6, Only}
use Rattle.ftp_settings.specs.declared.representation.Structure.{Structure}
use Rattle.ftp_settings.specs.declared.representation.Structure.TheVariants.{File, Record}
pub use Rattle.ftp_endpoint.specs.Number.{IsShort}
use Rattle.ftp_endpoint.specs.Written.{IsTypedEndpoint, IsV4, extended_text, six_text}

-- SP and an argument, or nothing where it is empty
abbrev pub spaced : List ℕ → List ℕ
spaced [] = []
spaced (c ∷ cs) = 32 ∷ c ∷ cs

abbrev pub spaced_if : Option (List ℕ) → List ℕ
spaced_if None = []
spaced_if (Some text) = spaced text

abbrev pub passive_text : Passive → List ℕ
passive_text Any = []
passive_text Ipv4 = codes " 1"
passive_text Ipv6 = codes " 2"
passive_text Only = codes " ALL"

abbrev pub kind_text : Kind → List ℕ
kind_text Ascii = codes " A"
kind_text Image = codes " I"

abbrev pub structure_text : Structure → List ℕ
structure_text File = codes " F"
structure_text Record = codes " R"

abbrev pub mode_text : Mode → List ℕ
mode_text Stream = codes " S"
mode_text Block = codes " B"

abbrev pub longest_text : Option ℕ → List ℕ
longest_text None = []
longest_text (Some longest) = codes " R " ++ decimal longest

-- what is written behind a verb
abbrev pub tail : Value (List ℕ) → List ℕ
tail (value.Name text) = spaced text
tail (value.Password text) = spaced text
tail (value.Words text) = spaced text
tail (value.WordsOrNone text) = spaced_if text
tail (value.Path text) = spaced text
tail (value.PathOrNone text) = spaced_if text
tail (value.Listed text) = spaced_if text
tail value.Nothing = []
tail (value.Six endpoint) = codes " " ++ six_text endpoint
tail (value.Extended endpoint) = codes " " ++ extended_text endpoint
tail (value.Family family) = passive_text family
tail (value.Kind kind) = kind_text kind
tail (value.Structure structure) = structure_text structure
tail (value.Mode mode) = mode_text mode
tail (value.Number number) = codes " " ++ decimal number
tail (value.Sizes octets longest) = codes " " ++ (decimal octets ++ longest_text longest)

-- what is written behind the verb of a command
abbrev pub tail_of : Command (List ℕ) → List ℕ
tail_of command = tail (value_of command)

-- the line of a command, without its end: the verb in capitals, and SP and the argument where there is one
abbrev pub line_of : Command (List ℕ) → List ℕ
line_of command = letters (verb_of command) ++ tail_of command

abbrev pub is_no_feed : ℕ → Bool
is_no_feed c = not (c == 10)

-- the most octets that a line has on a control connection, its end included (own choice)
abbrev pub line_limit : ℕ
line_limit = 1024

-- words that a line of so many octets can hold behind a verb of four letters: some, no LF, no SP at the end;
-- a CR goes as CR NUL, and CR LF ends the line
abbrev pub IsWords : List ℕ → Type 0
IsWords words =
    (1 ≤ length words) × (trimmed words ≡ words) × IsTrue (list_all is_no_feed words)
    × (length words + count_by (λ c. c == 13) words + 7 ≤ line_limit)

-- a line without its end that a control connection can carry: no LF, and with CR NUL for CR, and CR LF, within
-- the limit
abbrev pub IsLine : List ℕ → Type 0
IsLine line = IsTrue (list_all is_no_feed line) × (length line + count_by (λ c. c == 13) line + 2 ≤ line_limit)

-- a path that LIST would not take for an option
abbrev pub IsListed : List ℕ → Type 0
IsListed path = IsPathText path × (begins_with hyphen path ≡ false)

abbrev pub IfGiven : (List ℕ → Type 0) → Option (List ℕ) → Type 0
IfGiven P None = Unit {0}
IfGiven P (Some text) = P text

abbrev pub IfShort : Option ℕ → Type 0
IfShort None = Unit {0}
IfShort (Some n) = IsShort n

-- a line stands for this value
abbrev pub IsStatedValue : Value (List ℕ) → Type 0
IsStatedValue (value.Name text) = IsName text
IsStatedValue (value.Password text) = IsPassword text
IsStatedValue (value.Words text) = IsWords text
IsStatedValue (value.WordsOrNone text) = IfGiven IsWords text
IsStatedValue (value.Path text) = IsPathText text
IsStatedValue (value.PathOrNone text) = IfGiven IsPathText text
IsStatedValue (value.Listed text) = IfGiven IsListed text
IsStatedValue (value.Six endpoint) = IsV4 endpoint.host
IsStatedValue (value.Extended endpoint) = 1 ≤ endpoint.port
IsStatedValue (value.Number number) = IsShort number
IsStatedValue (value.Sizes octets longest) = IsShort octets × IfShort longest
IsStatedValue value = Unit {0}

-- a line stands for this command
abbrev pub IsStated : Command (List ℕ) → Type 0
IsStated command = IsStatedValue (value_of command)

-- what the types of a value's numbers keep
abbrev pub IsTypedValue : Value (List ℕ) → Type 0
IsTypedValue (value.Six endpoint) = IsTypedEndpoint endpoint
IsTypedValue (value.Extended endpoint) = IsTypedEndpoint endpoint
IsTypedValue value = Unit {0}

-- what the types of a command's numbers keep
abbrev pub IsTyped : Command (List ℕ) → Type 0
IsTyped command = IsTypedValue (value_of command)
