-- What holds of units, events and written lines.
use Rattle.std.specs.Prelude.{◌≡◌, ◌≤◌, ℕ, List, [], ◌∷◌, ◌++◌, length}
use Rattle.ftp_nvt.specs.declared.line.TheConstants.{LF}
use Rattle.ftp_nvt.specs.Telnet.{TelnetUnit, IsTelnetUnit, units, bare, owed_answers}
use Rattle.ftp_nvt.specs.Lines.{NvtEvent, line, too_long, owed, IsNoneOf, lines, events, written_line}

-- the octets of a unit are read as that unit, whatever follows
abbrev pub UnitIsRead : Type 0
UnitIsRead = (unit : TelnetUnit) (text more : List ℕ) → IsTelnetUnit unit text → units (text ++ more) ≡ unit ∷ units more

-- a unit that is cut settles nothing
abbrev pub CutUnitIsNone : Type 0
CutUnitIsNone = (unit : TelnetUnit) (front : List ℕ) (octet : ℕ) (back : List ℕ) → IsTelnetUnit unit (front ++ octet ∷ back) → units front ≡ []

-- the lines among events
abbrev pub line_events : List NvtEvent → List NvtEvent
line_events [] = []
line_events (line text ∷ events) = line text ∷ line_events events
line_events (too_long ∷ events) = too_long ∷ line_events events
line_events (owed answer ∷ events) = line_events events

-- the answers among events
abbrev pub answers_in : List NvtEvent → List (List ℕ)
answers_in [] = []
answers_in (line text ∷ events) = answers_in events
answers_in (too_long ∷ events) = answers_in events
answers_in (owed answer ∷ events) = answer ∷ answers_in events

-- the lines of events are those of the bare octets
abbrev pub LinesAreOfBareOctets : Type 0
LinesAreOfBareOctets = (limit : ℕ) (octets : List ℕ) → line_events (events limit octets) ≡ lines limit (bare octets)

-- the answers of events are those that the units are owed
abbrev pub AnswersAreOwed : Type 0
AnswersAreOwed = (limit : ℕ) (octets : List ℕ) → answers_in (events limit octets) ≡ owed_answers octets

-- what octets say stands, whatever follows
abbrev pub FrontSaysFront : Type 0
FrontSaysFront = (limit : ℕ) (front back : List ℕ) → (more : List NvtEvent) × (events limit (front ++ back) ≡ events limit front ++ more)

-- a line that was written and keeps the limit is heard as that line alone, and then what follows
abbrev pub WrittenLineIsHeard : Type 0
WrittenLineIsHeard =
    (limit : ℕ) (text more : List ℕ) → IsNoneOf LF text → length (bare (written_line text)) ≤ limit
    → events limit (written_line text ++ more) ≡ line text ∷ events limit more
