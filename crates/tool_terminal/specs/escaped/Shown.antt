-- How octets of a stranger are shown, so that no terminal obeys them and nobody takes them for others (own choice): UTF-8 as it stands (RFC 3629,
-- section 4), and `\xHH` for each octet that is of no character, or of one that is hidden: a control character, a mark of direction, one without width,
-- or a tag.
use Rattle.std.specs.Prelude.{ℕ, ◌+◌, ◌-◌, ◌/◌, ◌%◌, ◌==◌, ◌&&◌, ◌||◌, ◌++◌, Bool, not, nat_le, nat_lt, List, [], ◌∷◌, get_or, take, if◌then◌else◌}

-- a number from one to another
abbrev pub is_from : ℕ → ℕ → ℕ → Bool
is_from least greatest octet = nat_le least octet && nat_le octet greatest

-- an octet of US-ASCII that is no control character, and no backslash, which begins an escape
abbrev pub is_plain : ℕ → Bool
is_plain octet = is_from 32 126 octet && not (octet == 92)

-- an octet of a character behind its first, but for the second of some
abbrev pub is_tail : ℕ → Bool
is_tail octet = is_from 0x80 0xBF octet

-- after 0xC2: the control characters U+0080 to U+009F (C1), and U+00AD, a hyphen without width
abbrev pub is_hidden_c2 : ℕ → Bool
is_hidden_c2 second = is_from 0x80 0x9F second || second == 0xAD

-- a hidden character of two octets: after 0xC2, U+034F without width, and U+061C, a mark of direction
abbrev pub is_hidden_two : ℕ → ℕ → Bool
is_hidden_two first second =
    (first == 0xC2 && is_hidden_c2 second) || (first == 0xCD && second == 0x8F) || (first == 0xD8 && second == 0x9C)

-- after 0xE2: U+200B to U+200D without width, the marks of direction U+200E, U+200F and U+202A to U+202E, and the ends of lines U+2028 and U+2029
abbrev pub is_hidden_80 : ℕ → ℕ → Bool
is_hidden_80 second third = second == 0x80 && (is_from 0x8B 0x8F third || is_from 0xA8 0xAE third)

-- after 0xE2: U+2060 to U+206F, which are without width, the marks of direction U+2066 to U+2069 among them
abbrev pub is_hidden_81 : ℕ → ℕ → Bool
is_hidden_81 second third = second == 0x81 && is_from 0xA0 0xAF third

-- after 0xEF: U+FE00 to U+FE0F, which choose a shape, U+FEFF without width, and U+FFF9 to U+FFFB, which annotate
abbrev pub is_hidden_ef : ℕ → ℕ → Bool
is_hidden_ef second third =
    (second == 0xB8 && is_from 0x80 0x8F third) || (second == 0xBB && third == 0xBF) || (second == 0xBF && is_from 0xB9 0xBB third)

-- a hidden character of three octets: after 0xE2 and 0xEF, and U+180E without width
abbrev pub is_hidden_three : ℕ → ℕ → ℕ → Bool
is_hidden_three first second third =
    (first == 0xE2 && (is_hidden_80 second third || is_hidden_81 second third)) || (first == 0xEF && is_hidden_ef second third)
    || (first == 0xE1 && second == 0xA0 && third == 0x8E)

-- a hidden character of four octets: the tags U+E0000 to U+E007F, and what else stands up to U+E01FF, which chooses a shape
abbrev pub is_hidden_four : ℕ → ℕ → ℕ → Bool
is_hidden_four first second third = first == 0xF3 && second == 0xA0 && is_from 0x80 0x87 third

-- what may stand second in a character of three octets, and of four
abbrev pub is_second_of_three : ℕ → ℕ → Bool
is_second_of_three first second =
    is_from (if first == 0xE0 then 0xA0 else 0x80) (if first == 0xED then 0x9F else 0xBF) second

abbrev pub is_second_of_four : ℕ → ℕ → Bool
is_second_of_four first second =
    is_from (if first == 0xF0 then 0x90 else 0x80) (if first == 0xF4 then 0x8F else 0xBF) second

-- octets of a character of three octets that is shown, and of one of four
abbrev pub is_three : ℕ → ℕ → ℕ → Bool
is_three first second third = is_second_of_three first second && is_tail third && not (is_hidden_three first second third)

abbrev pub is_four : ℕ → ℕ → ℕ → ℕ → Bool
is_four first second third fourth =
    is_second_of_four first second && is_tail third && is_tail fourth && not (is_hidden_four first second third)

-- how many octets the character has that begins with this one and goes on so, where it is shown as it stands; else 0
abbrev pub len_two : ℕ → List ℕ → ℕ
len_two first [] = 0
len_two first (second ∷ rest) = if is_tail second && not (is_hidden_two first second) then 2 else 0

abbrev pub len_three : ℕ → List ℕ → ℕ
len_three first [] = 0
len_three first (second ∷ []) = 0
len_three first (second ∷ third ∷ rest) =
    if is_three first second third then 3 else 0

abbrev pub len_four : ℕ → List ℕ → ℕ
len_four first [] = 0
len_four first (second ∷ []) = 0
len_four first (second ∷ third ∷ []) = 0
len_four first (second ∷ third ∷ fourth ∷ rest) = if is_four first second third fourth then 4 else 0

-- how many octets the character has that stands at the front, where it is shown as it stands; 0 where the first octet is escaped
abbrev pub shown_len : List ℕ → ℕ
shown_len [] = 0
shown_len (first ∷ rest) =
    if is_plain first then 1
    else (if is_from 0xC2 0xDF first then len_two first rest
    else (if is_from 0xE0 0xEF first then len_three first rest
    else (if is_from 0xF0 0xF4 first then len_four first rest else 0)))

-- a hexadecimal digit
abbrev pub digit : ℕ → ℕ
digit value = if nat_lt value 10 then 48 + value else 87 + value

-- `\xHH` of an octet
abbrev pub hexadecimal : ℕ → List ℕ
hexadecimal octet = 92 ∷ 120 ∷ digit (octet / 16) ∷ digit (octet % 16) ∷ []

-- an octet as an escape: a backslash twice, and any other as `\xHH`
abbrev pub octet_escaped : ℕ → List ℕ
octet_escaped octet = if octet == 92 then 92 ∷ 92 ∷ [] else hexadecimal octet

-- an octet at the front of a row of which so many stand as they are
abbrev pub octet_shown : ℕ → ℕ → List ℕ
octet_shown kept octet = if kept == 0 then octet_escaped octet else octet ∷ []

-- of how many octets at the front it is known that they stand as they are, where it is known of so many
abbrev pub kept_of : ℕ → List ℕ → ℕ
kept_of kept octets = if kept == 0 then shown_len octets else kept

-- octets as they are shown, where the first so many stand as they are
unfoldable pub shown_from : ℕ → List ℕ → List ℕ
shown_from kept [] = []
shown_from kept (octet ∷ octets) =
    let now = kept_of kept (octet ∷ octets) in octet_shown now octet ++ shown_from (now - 1) octets

-- octets as they are shown
abbrev pub octets_shown : List ℕ → List ℕ
octets_shown octets = shown_from 0 octets

-- What is written at once of octets of which so many at the front are written already: nothing amid a character, else the character where it stands as it
-- is, and else the first octet as an escape.
abbrev pub front_shown : ℕ → List ℕ → List ℕ
front_shown written octets =
    if written == 0 then (if shown_len octets == 0 then octet_escaped (get_or octets 0 0) else take (shown_len octets) octets) else []
