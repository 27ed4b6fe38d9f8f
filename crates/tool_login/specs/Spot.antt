-- How the octets of a `.netrc` are words (own choice: netrc(5), with the comments and the quotes that curl reads).
use Rattle.std.specs.Prelude.{ℕ, ◌==◌, ◌||◌, Bool, if◌then◌else◌}
use Rattle.tool_login.specs.declared.spot.WordPosition.{WordPosition}
use Rattle.tool_login.specs.declared.spot.WordPosition.TheVariants as Spots
use Rattle.tool_login.specs.declared.spot.WordAction.{WordAction}
use Rattle.tool_login.specs.declared.spot.WordAction.TheVariants as Actions

-- LF, which ends a line, and `"`, `\` and `#`
abbrev pub line_feed : ℕ
line_feed = 10

abbrev pub quote : ℕ
quote = 34

abbrev pub backslash : ℕ
backslash = 92

abbrev pub hash : ℕ
hash = 35

-- SP, TAB and CR stand between words
abbrev pub is_blank : ℕ → Bool
is_blank octet = octet == 32 || octet == 9 || octet == 13

-- what a backslash and this octet stand for in quotes: `\n` for LF, `\r` for CR, `\t` for TAB, and each other for itself
abbrev pub unescaped : ℕ → ℕ
unescaped octet = if octet == 110 then 10 else (if octet == 114 then 13 else (if octet == 116 then 9 else octet))

-- an octet that stands between words: a quote or any octet that is no blank begins one
abbrev pub between : WordPosition → ℕ → WordPosition × WordAction
between spot octet =
    if octet == line_feed then (Spots.LineStart, Actions.Nothing)
    else (if is_blank octet then (spot, Actions.Nothing)
    else (if octet == quote then (Spots.Quoted, Actions.Nothing) else (Spots.Word, Actions.Keep octet)))

-- one that stands in a word, which ends before a blank and at the end of a line
abbrev pub in_word : ℕ → WordPosition × WordAction
in_word octet =
    if octet == line_feed then (Spots.LineStart, Actions.End)
    else (if is_blank octet then (Spots.Between, Actions.End) else (Spots.Word, Actions.Keep octet))

-- one in quotes, where blanks stand for themselves; a line ends no word there
abbrev pub in_quotes : ℕ → WordPosition × WordAction
in_quotes octet =
    if octet == quote then (Spots.Between, Actions.End)
    else (if octet == backslash then (Spots.Escaped, Actions.Nothing)
    else (if octet == line_feed then (Spots.Torn, Actions.Nothing) else (Spots.Quoted, Actions.Keep octet)))

-- one behind a backslash there
abbrev pub escaped : ℕ → WordPosition × WordAction
escaped octet = if octet == line_feed then (Spots.Torn, Actions.Nothing) else (Spots.Quoted, Actions.Keep (unescaped octet))

-- where an octet leads to, and what it does: `#` first on its line begins a comment, which its line ends; a line without an octet ends a macro
abbrev pub turn : WordPosition → ℕ → WordPosition × WordAction
turn Spots.LineStart octet = if octet == hash then (Spots.Comment, Actions.Nothing) else between Spots.LineStart octet
turn Spots.Between octet = between Spots.Between octet
turn Spots.Word octet = in_word octet
turn Spots.Quoted octet = in_quotes octet
turn Spots.Escaped octet = escaped octet
turn Spots.Comment octet = (if octet == line_feed then Spots.LineStart else Spots.Comment, Actions.Nothing)
turn Spots.Macro octet = (if octet == line_feed then Spots.MacroStart else Spots.Macro, Actions.Nothing)
turn Spots.MacroStart octet =
    (if octet == line_feed then Spots.LineStart else (if octet == 13 then Spots.MacroStart else Spots.Macro), Actions.Nothing)
turn Spots.Torn octet = (Spots.Torn, Actions.Nothing)

-- where the word leads to that begins a macro, by where it would lead else: the macro's lines begin with the next
abbrev pub macro_behind : WordPosition → WordPosition
macro_behind Spots.LineStart = Spots.MacroStart
macro_behind spot = Spots.Macro
