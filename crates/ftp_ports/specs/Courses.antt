-- What goes over data connections, one after another, as actions tell it (RFC 959, section 3.2).
use Rattle.std.specs.Prelude.{◌≡◌, ⊤, ℕ, Bool, true, false, List, [], ◌∷◌, ◌++◌, Option, None, IfSome}
use Rattle.std.specs.Io.KnownBytes.{Appends}
use Rattle.ftp_ports.specs.Asking.{Asked, Listened, Came, Connected, NotCame, NotConnected, Ended as EndedBy, Reset, Shut, Lost, Adds, told_lost}
use Rattle.ftp_ports.specs.Actions.{Action, Heard, Said, Read, Ended, Other}
use Rattle.ftp_ports.specs.Channel.{Channel, Move, Stays, Waits, Reads, Writes, Gives, Notes, Takes, Fails, Ends, Breaks, Stops, Asks, Opens, Leaves}
use Rattle.ftp_ports.specs.Side.{Side}

-- what went over one so far: what was left to be read and what was written to it when it was opened; whether it was read and written; what
-- was read, what of that the end was told or let go, what it gave, and what of that was written
pub record ConnectionCourse : Type 0 where
  pub at_first : Option (List ℕ)
  pub so_far : Option (List ℕ)
  pub is_read : Bool
  pub is_written : Bool
  pub read : List ℕ
  pub told : List ℕ
  pub given : List ℕ
  pub written : List ℕ

abbrev pub begun : (at_first so_far : Option (List ℕ)) → ConnectionCourse
begun at_first so_far =
    record { at_first = at_first; so_far = so_far; is_read = false; is_written = false; read = []; told = []; given = []; written = [] }

-- a move goes on with it, or begins another
abbrev pub after : Move → ConnectionCourse → ConnectionCourse
after Stays course = course
after (Waits lost) course = course
after (Reads octets) course = record course { is_read = true; read = course.read ++ octets }
after (Writes octets) course = record course { is_written = true; written = course.written ++ octets }
after (Gives octets rest) course = record course { given = course.given ++ octets }
after Notes course = course
after (Takes octets) course = record course { told = course.told ++ octets }
after Fails course = course
after Ends course = course
after Breaks course = course
after Stops course = course
after (Asks asked) course = course
after (Opens host asked at_first so_far rest) course = begun at_first so_far
after (Leaves asked) course = begun None None

-- what a move asks of whatever opens and closes data connections
abbrev pub asked_by : Move → List Asked
asked_by (Asks asked) = asked
asked_by (Opens host asked at_first so_far rest) = asked
asked_by (Leaves asked) = asked ∷ []
asked_by Stays = []
asked_by (Waits lost) = told_lost lost
asked_by (Reads octets) = []
asked_by (Writes octets) = []
asked_by (Gives octets rest) = []
asked_by Notes = []
asked_by (Takes octets) = []
asked_by Fails = []
asked_by Ends = []
asked_by Breaks = []
asked_by Stops = []

-- these are the first of those
abbrev pub AreFirstOf : (front all : List ℕ) → Type 0
AreFirstOf front all = (rest : List ℕ) × (all ≡ front ++ rest)

-- an end goes behind all that this end gave; where nothing was read before, the stream holds just that behind what it held when it was opened
abbrev pub IsFairLeave : Asked → ConnectionCourse → Type 0
IsFairLeave (EndedBy left written) course = (course.written ≡ course.given) × (course.is_read ≡ false → Appends course.so_far written course.given)
IsFairLeave (Reset left written) course = ⊤
IsFairLeave Shut course = ⊤
IsFairLeave (Listened port) course = ⊤
IsFairLeave (Came host left written) course = ⊤
IsFairLeave (Connected endpoint left written) course = ⊤
IsFairLeave NotCame course = ⊤
IsFairLeave Lost course = ⊤
IsFairLeave (NotConnected endpoint) course = ⊤

-- what is so before a move: this end is told of an end behind all that was read, and that is all that was to be read, if nothing was written
abbrev pub IsFairMove : Move → ConnectionCourse → Type 0
IsFairMove Ends course = (course.told ≡ course.read) × (course.is_written ≡ false → IfSome course.at_first (λ all. course.told ≡ all))
IsFairMove (Leaves asked) course = IsFairLeave asked course
IsFairMove Stays course = ⊤
IsFairMove (Waits lost) course = ⊤
IsFairMove (Reads octets) course = ⊤
IsFairMove (Writes octets) course = ⊤
IsFairMove (Gives octets rest) course = ⊤
IsFairMove Notes course = ⊤
IsFairMove (Takes octets) course = ⊤
IsFairMove Fails course = ⊤
IsFairMove Breaks course = ⊤
IsFairMove Stops course = ⊤
IsFairMove (Asks asked) course = ⊤
IsFairMove (Opens host asked at_first so_far rest) course = ⊤

module _ {side : Side} (move_of : side.Call → Move) where
  abbrev pub move_in : Action side → Move
  move_in (Other call) = move_of call
  move_in (Heard octets) = Notes
  move_in (Said octets) = Stays
  move_in (Read octets) = Stays
  move_in Ended = Notes

  -- behind actions, the last one first
  abbrev pub course_of : List (Action side) → ConnectionCourse
  course_of [] = begun None None
  course_of (action ∷ before) = after (move_in action) (course_of before)

  abbrev pub asked_in : List (Action side) → List Asked
  asked_in [] = []
  asked_in (action ∷ before) = asked_by (move_in action) ++ asked_in before

  -- at each action: what was written is the first of what was given, in order, and what was told the first of what was read
  abbrev pub AreInOrder : List (Action side) → Type 0
  AreInOrder [] = ⊤
  AreInOrder (action ∷ before) =
      let course = course_of before in
      AreInOrder before × AreFirstOf course.written course.given × AreFirstOf course.told course.read × IsFairMove (move_in action) course

  -- what actions come to
  pub record Carries (actions : List (Action side)) (start now : Channel) : Type 0 where
    pub in_order : AreInOrder actions
    pub given : (course_of actions).given ≡ (course_of actions).written ++ now.unwritten
    pub read : (course_of actions).read ≡ (course_of actions).told ++ now.untold
    pub asked : Adds start.asked now.asked (asked_in actions)
