-- The reader of a control connection as a fold, octet by octet: the model of what an `Ear` does (RFC 854, "The NVT printer and
-- keyboard"; RFC 959, section 4). What it gives, over all octets, is what they say, and an ear is seen as the fold behind what it
-- has heard: these are its laws.
use Rattle.std.specs.Prelude.{◌≡◌, ℕ, ◌+◌, ◌-◌, List, [], ◌∷◌, ◌++◌, map, length, take, ◌==◌, if◌then◌else◌}
use Rattle.std.specs.List.{flat_map}
use Rattle.ftp_nvt.specs.Lines.{NvtEvent, line, too_long, owed, events}
use Rattle.ftp_nvt.specs.Telnet.{TelnetUnit, place_behind, unit_ended, bare_of, owed_of}
use Rattle.ftp_nvt.specs.Ear.{HasHeard, limit_of}
use Rattle.ftp_nvt.specs.declared.ear.Ear.{Ear as Reader}
use Rattle.ftp_nvt.specs.declared.line.Stage.{Stage}
use Rattle.ftp_nvt.specs.declared.line.Stage.TheVariants.{Start, Inside, AfterReturn, Past}
use Rattle.ftp_nvt.specs.declared.line.TheConstants.{NUL, LF, CR}
use Rattle.ftp_nvt.specs.declared.telnet.TelnetState.{TelnetState}
use Rattle.ftp_nvt.specs.declared.telnet.TelnetState.TheVariants as At
use Rattle.ftp_pieces.specs.Machine.{Machine, after, gives}

-- ---- the unfinished line

-- where in a line the reader is, how many of its octets came, and the text that they say; of a line that is too long
-- nothing is kept
pub record Unfinished : Type 0 where
  pub stage : Stage
  pub count : ℕ
  pub text : List ℕ

-- at the start of a line
abbrev pub no_line : Unfinished
no_line = record { stage = Inside; count = 0; text = [] }

-- in a line that is too long, whose rest is skipped
abbrev pub past_limit : Unfinished
past_limit = record { stage = Past; count = 0; text = [] }

-- own choice: a line is too long at the first octet past the limit, and over if that is the LF
abbrev pub skipping : ℕ → Unfinished
skipping octet = if octet == LF then no_line else past_limit

-- CR NUL is the octet CR; own choice: a CR before any other octet stays
abbrev pub text_with : Stage → List ℕ → ℕ → List ℕ
text_with AfterReturn text octet = if octet == NUL then text else text ++ octet ∷ []
text_with stage text octet = text ++ octet ∷ []

-- a line with one more octet, which does not end it
abbrev pub longer : Unfinished → ℕ → Unfinished
longer u octet = record { stage = if octet == CR then AfterReturn else Inside; count = u.count + 1; text = text_with u.stage u.text octet }

-- the text of a line that an LF ends: the CR right before it is no part; own choice: an LF alone ends a line too
abbrev pub ended_text : Stage → List ℕ → List ℕ
ended_text AfterReturn text = take (length text - 1) text
ended_text stage text = text

-- a line that keeps the limit so far and one more octet: the line behind it, and what that says
abbrev pub within_step : ℕ → Unfinished → ℕ → Unfinished
within_step limit u octet = if u.count == limit then skipping octet else (if octet == LF then no_line else longer u octet)

abbrev pub within_out : ℕ → Unfinished → ℕ → List NvtEvent
within_out limit u octet =
    if u.count == limit then too_long ∷ [] else (if octet == LF then line (ended_text u.stage u.text) ∷ [] else [])

-- the line behind an octet, at each stage
abbrev pub line_step : ℕ → Stage → Unfinished → ℕ → Unfinished
line_step limit Past u octet = skipping octet
line_step limit stage u octet = within_step limit u octet

abbrev pub line_out : ℕ → Stage → Unfinished → ℕ → List NvtEvent
line_out limit Past u octet = []
line_out limit stage u octet = within_out limit u octet

-- the reader of lines of a limit, over octets that Telnet octets were taken out of
abbrev pub liner : ℕ → Machine Unfinished ℕ NvtEvent
liner limit = record { step = λ u octet. line_step limit u.stage u octet; out = λ u octet. line_out limit u.stage u octet }

-- ---- the ear

-- where in a Telnet unit and in a line the reader is
pub record Ear : Type 0 where
  pub place : TelnetState
  pub line : Unfinished

-- nothing was heard
abbrev pub quiet : Ear
quiet = record { place = At.Between; line = no_line }

-- what a Telnet unit says: the line that its octet ends, or the answer that it is owed
abbrev pub unit_says : ℕ → Unfinished → TelnetUnit → List NvtEvent
unit_says limit u unit = gives (liner limit) u (bare_of unit) ++ map owed (owed_of unit)

-- one octet: at most one unit ends with it
abbrev pub ear_step : ℕ → Ear → ℕ → Ear
ear_step limit e octet = record {
  place = place_behind e.place octet;
  line = after (liner limit) e.line (flat_map bare_of (unit_ended e.place octet));
}

abbrev pub ear_out : ℕ → Ear → ℕ → List NvtEvent
ear_out limit e octet = flat_map (unit_says limit e.line) (unit_ended e.place octet)

-- the reader of a control connection whose lines keep a limit: each octet gives a line, that one was too long, an owed
-- answer, or nothing
abbrev pub ear : ℕ → Machine Ear ℕ NvtEvent
ear limit = record { step = ear_step limit; out = ear_out limit }

-- ---- an ear, seen as the fold

-- what is kept of a line at a stage
abbrev pub line_at : Stage → ℕ → List ℕ → Unfinished
line_at Start count text = no_line
line_at Inside count text = record { stage = Inside; count = count; text = text }
line_at AfterReturn count text = record { stage = AfterReturn; count = count; text = text }
line_at Past count text = past_limit

-- how an ear is seen
abbrev pub ear_of : {A : Type 0} → Reader A → Ear
ear_of reader = record { place = reader.place; line = line_at reader.line.stage reader.line.count reader.line.text.items }

-- ---- the laws

-- over all octets it gives what they say
abbrev pub EarGivesEvents : Type 0
EarGivesEvents = (limit : ℕ) (octets : List ℕ) → gives (ear limit) quiet octets ≡ events limit octets

-- a reader that has heard octets is seen as the ear behind them
abbrev pub ReaderIsEar : {A : Type 0} → Reader A → Type 0
ReaderIsEar reader = (octets : List ℕ) → HasHeard reader octets → ear_of reader ≡ after (ear (limit_of reader)) quiet octets
