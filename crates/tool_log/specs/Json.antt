-- Lines of the log as JSON, an object a line (RFC 8259; the names of members are own choices).
use Rattle.std.specs.Prelude.{ℕ, ◌+◌, ◌-◌, ◌++◌, ◌/◌, ◌%◌, ◌==◌, ◌&&◌, ◌||◌, List, [], ◌∷◌, Option, Some, None, codes, decimal, flat_map, length, nat_le, nat_lt, take, if◌then◌else◌}
use Rattle.bstr.specs.Utf8.{lossy_chars}
use Rattle.ftp_facts.specs.Moment.{moment_digits}
use Rattle.tool_log.specs.declared.entry.DataClose.{DataClose}
use Rattle.tool_log.specs.declared.entry.DataClose.TheVariants as Closes
use Rattle.tool_log.specs.declared.json.LineHead.{LineHead}
use Rattle.tool_log.specs.declared.json.CommandFacts.{CommandFacts}
use Rattle.tool_terminal.specs.escaped.Shown.{digit}

-- ---- strings

-- a number below 65,536 as an escape: `\u` and its four hexadecimal digits (RFC 8259, section 7)
abbrev pub escape : ℕ → List ℕ
escape unit = 92 ∷ 117 ∷ digit (unit / 4096) ∷ digit (unit / 256 % 16) ∷ digit (unit / 16 % 16) ∷ digit (unit % 16) ∷ []

-- the two surrogates of a character past U+FFFF (RFC 2781, section 2.1)
abbrev pub high_surrogate : ℕ → ℕ
high_surrogate char = 0xD800 + (char - 0x10000) / 1024

abbrev pub low_surrogate : ℕ → ℕ
low_surrogate char = 0xDC00 + (char - 0x10000) % 1024

-- a character past U+FFFF: its two surrogates as escapes
abbrev pub pair_json : ℕ → List ℕ
pair_json char = escape (high_surrogate char) ++ escape (low_surrogate char)

-- A character in a string: a quotation mark and a backslash behind a backslash, other printable ones of US-ASCII as they stand, and all others as escapes,
-- so that no terminal obeys a line (own choice).
abbrev pub char_json : ℕ → List ℕ
char_json char =
    if (char == 34) || (char == 92) then 92 ∷ char ∷ []
    else (if nat_le 32 char && nat_lt char 127 then char ∷ []
    else (if nat_lt char 0x10000 then escape char else pair_json char))

-- the characters of a text one after another; U+FFFD for each piece that is none of UTF-8 (own choice)
abbrev pub text_json : List ℕ → List ℕ
text_json text = flat_map char_json (lossy_chars text)

-- a text as a string
abbrev pub string : List ℕ → List ℕ
string text = 34 ∷ (text_json text ++ 34 ∷ [])

-- ---- members

-- a member behind others, with its value as it is written
abbrev pub member : (name value : List ℕ) → List ℕ
member name value = codes ",\"" ++ (name ++ (codes "\":" ++ value))

-- fourteen digits as a moment in UTC (RFC 3339, section 5.6)
abbrev pub stamped : List ℕ → List ℕ
stamped (a ∷ b ∷ c ∷ d ∷ e ∷ f ∷ g ∷ h ∷ i ∷ j ∷ k ∷ l ∷ m ∷ n ∷ []) =
    a ∷ b ∷ c ∷ d ∷ 45 ∷ e ∷ f ∷ 45 ∷ g ∷ h ∷ 84 ∷ i ∷ j ∷ 58 ∷ k ∷ l ∷ 58 ∷ m ∷ n ∷ 90 ∷ []
stamped other = []

-- how many lines before this one are lost, if any
abbrev pub lost_member : ℕ → List ℕ
lost_member lines = if lines == 0 then [] else member (codes "lost") (decimal lines)

-- the front of an object: the moment, lost lines, and what kind of a line it is
abbrev pub front_json : (stamp : List ℕ) → (lost : ℕ) → (event : List ℕ) → List ℕ
front_json stamp lost event =
    codes "{\"time\":\"" ++ (stamp ++ (34 ∷ (lost_member lost ++ member (codes "event") (string event))))

abbrev pub head_json : LineHead → (event : List ℕ) → List ℕ
head_json head event = front_json (stamped (moment_digits head.moment.seconds)) head.lost event

-- the verb of a line, null where it is none that is known
abbrev pub verb_json : List ℕ → List ℕ
verb_json [] = codes "null"
verb_json (letter ∷ letters) = string (letter ∷ letters)

-- the code of the last reply, null where the line was not answered
abbrev pub code_json : Option ℕ → List ℕ
code_json (Some code) = decimal code
code_json None = codes "null"

-- whether the data connection was reset
abbrev pub reset_json : DataClose → List ℕ
reset_json Closes.Reset = codes "true"
reset_json Closes.Ended = codes "false"

-- why the folder failed, if that is told
abbrev pub reason_member : List ℕ → List ℕ
reason_member [] = []
reason_member (octet ∷ octets) = member (codes "reason") (string (octet ∷ octets))

-- ---- lines

-- a line of a client: who, what, and which octets it moved
abbrev pub asked_json : CommandFacts → List ℕ
asked_json it =
    member (codes "peer") (string it.peer.now) ++ (member (codes "user") (string it.user.now) ++ (member (codes "verb") (verb_json it.verb.now)
    ++ (member (codes "path") (string it.path.now) ++ member (codes "octets") (decimal it.octets))))

-- how it ended
abbrev pub ending_json : CommandFacts → List ℕ
ending_json it = member (codes "code") (code_json it.code) ++ (member (codes "reset") (reset_json it.fate) ++ (reason_member it.reason.now ++ codes "}"))

abbrev pub command_json : LineHead → CommandFacts → List ℕ
command_json head it = head_json head (codes "command") ++ (asked_json it ++ ending_json it)

-- how a session goes
abbrev pub session_json : LineHead → (peer text : List ℕ) → List ℕ
session_json head peer text =
    head_json head (codes "session") ++ (member (codes "peer") (string peer) ++ (member (codes "text") (string text) ++ codes "}"))

-- what is told of the server itself
abbrev pub note_json : LineHead → (text : List ℕ) → List ℕ
note_json head text = head_json head (codes "note") ++ (member (codes "text") (string text) ++ codes "}")

-- what is told of a text whose line has this length: all of it, or its first 640 octets where the line would be too long
abbrev pub told_front : (text : List ℕ) → (length most : ℕ) → List ℕ
told_front text length most = if nat_le length most then text else take 640 text

-- the same of a text as far as a line has room for it
abbrev pub note_within : (most : ℕ) → LineHead → (text : List ℕ) → List ℕ
note_within most head text = note_json head (told_front text (length (note_json head text)) most)
