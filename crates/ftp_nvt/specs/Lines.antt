-- What the octets of a control connection say: lines, and owed answers (RFC 854, "The NVT printer and keyboard"; RFC 959, section 4).
use Rattle.std.specs.Prelude.{◌≡◌, false, ℕ, ◌+◌, ◌-◌, List, [], ◌∷◌, ◌++◌, map, length, take, drop, ◌==◌, ◌&&◌, nat_le, if◌then◌else◌}
use Rattle.std.specs.List.{AllByRecursion, flat_map}
use Rattle.ftp_nvt.specs.declared.line.TheConstants.{NUL, LF, CR}
use Rattle.ftp_nvt.specs.declared.telnet.TheConstants.{IAC}
use Rattle.ftp_nvt.specs.Telnet.{TelnetUnit, units, bare_of, owed_of}

-- what octets say: a line's text without its end, that a line was too long, or the answer that Telnet octets are owed
pub data NvtEvent : Type 0 where
  line : (text : List ℕ) → NvtEvent
  too_long : NvtEvent
  owed : (answer : List ℕ) → NvtEvent

-- octets cut at each LF: the octets before each LF, and the octets behind the last
pub record Cut : Type 0 where
  pub ended : List (List ℕ)
  pub rest : List ℕ

-- one more LF in front: it ends an empty line
abbrev pub with_line_end : Cut → Cut
with_line_end later = record { ended = [] ∷ later.ended; rest = later.rest }

-- one more octet in front: it belongs to the first line
abbrev pub with_octet : ℕ → List (List ℕ) → List ℕ → Cut
with_octet octet [] rest = record { ended = []; rest = octet ∷ rest }
with_octet octet (first ∷ others) rest = record { ended = (octet ∷ first) ∷ others; rest = rest }

-- octets cut at each LF; own choice: an LF without a CR before it ends a line too
unfoldable pub cut : List ℕ → Cut
cut [] = record { ended = []; rest = [] }
cut (octet ∷ octets) =
    let later = cut octets in
    if octet == LF then with_line_end later else with_octet octet later.ended later.rest

-- the last of these octets, which stand behind another
abbrev pub last_octet : ℕ → List ℕ → ℕ
last_octet before [] = before
last_octet before (octet ∷ octets) = last_octet octet octets

-- the octets of a line, which stand behind another, with CR NUL as CR: each NUL right behind a CR is left out;
-- own choice: a CR before any other octet stays
unfoldable pub text_behind : ℕ → List ℕ → List ℕ
text_behind before [] = []
text_behind before (octet ∷ octets) =
    if (before == CR) && (octet == NUL) then text_behind octet octets else octet ∷ text_behind octet octets

-- the octets of a line as they stand so far, with CR NUL as CR
abbrev pub text_of : List ℕ → List ℕ
text_of octets = text_behind LF octets

-- the octets before an LF, without the CR that may stand right before it
abbrev pub without_return : List ℕ → List ℕ
without_return octets = if last_octet LF octets == CR then take (length octets - 1) octets else octets

-- what the octets before an LF say: a line, where they and the LF keep the limit
abbrev pub said : ℕ → List ℕ → NvtEvent
said limit octets = if nat_le (length octets + 1) limit then line (text_of (without_return octets)) else too_long

-- what the octets behind the last LF say already: that their line is too long
abbrev pub said_early : ℕ → List ℕ → List NvtEvent
said_early limit octets = if nat_le (length octets) limit then [] else too_long ∷ []

-- the lines of bare octets; own choice: a line's length counts its octets, CR NUL as two and its end included, and it
-- is too long at the first octet past the limit, once
unfoldable pub lines : ℕ → List ℕ → List NvtEvent
lines limit bare = map (said limit) (cut bare).ended ++ said_early limit (cut bare).rest

-- the lines that bare octets add behind others
abbrev pub lines_added : ℕ → List ℕ → List ℕ → List NvtEvent
lines_added limit before more = drop (length (lines limit before)) (lines limit (before ++ more))

-- what units say, behind bare octets: each the line that its octet adds, or the answer that it is owed
abbrev pub events_behind : ℕ → List ℕ → List TelnetUnit → List NvtEvent
events_behind limit before [] = []
events_behind limit before (unit ∷ units) =
    lines_added limit before (bare_of unit) ++ map owed (owed_of unit) ++ events_behind limit (before ++ bare_of unit) units

-- all that octets say: lines over their bare octets, and owed answers, in the order of the octets that settle them
unfoldable pub events : ℕ → List ℕ → List NvtEvent
events limit octets = events_behind limit [] (units octets)

-- the line that one more bare octet adds, behind these octets of an unfinished line: a line that this octet ends, or that it
-- is the first octet past the limit
abbrev pub settled : ℕ → List ℕ → ℕ → List NvtEvent
settled limit rest octet =
    if length rest == limit then too_long ∷ []
    else (if nat_le limit (length rest) then [] else (if octet == LF then line (text_of (without_return rest)) ∷ [] else []))

-- none of these octets is this one
abbrev pub IsNoneOf : ℕ → List ℕ → Type 0
IsNoneOf octet octets = AllByRecursion (λ other. (other == octet) ≡ false) octets

-- how an octet of a line's text is written: 255 doubled, CR as CR NUL
abbrev pub written_octet : ℕ → List ℕ
written_octet octet = if octet == IAC then IAC ∷ IAC ∷ [] else (if octet == CR then CR ∷ NUL ∷ [] else octet ∷ [])

-- how a line is written, which ends with CR LF
abbrev pub written_line : List ℕ → List ℕ
written_line text = flat_map written_octet text ++ CR ∷ LF ∷ []
