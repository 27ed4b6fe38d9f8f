-- What a call of a server gives and leaves whether or not memory or the device fails in it: what the clauses of that call in the trait
-- `Far` say. Calls by a list are a chain of these.
use Rattle.std.specs.Prelude.{◌≡◌, ◌<◌, ◌≤◌, ℕ, Bool, List, IsTrue, length, take}
use Rattle.ftp_server_model.specs.Calls.{break_step, clock_step, close_step, control_end, control_step, end_step, given_step, listening_step, may_receive, no_port_step, opened_step, refused_step, to_give, wants}
use Rattle.ftp_server_model.specs.Failing.{EndFails, GiveFails, KeepsCourse}
use Rattle.ftp_server_model.specs.Far.{Acts, Hears, Receives, Server, Steps}
use Rattle.ftp_server_model.specs.Machine.{may_hear}
use Rattle.ftp_server_model.specs.Most.{IsMostHeard, IsMostReceived}
use Rattle.ftp_server_model.specs.Play.{Cue, Gift, Clock, Hear, ControlOut, ControlEnd, Listening, ListenRefused, DataOpened, DataRefused, DataHear, DataOut, DataEnd, DataFault, DataClosed, AsksWants, Nothing, Took, Octets, Wanted, most_given}
use Rattle.ftp_server_calls.specs.one.Order.{CalmFirst, InOrder, OneMore}

-- so many octets of a piece of the control connection were taken
pub record TakesHeard (count : ℕ) (octets : List ℕ) (old new : Server) : Type 0 where
  pub within : count ≤ length octets
  pub took : Hears (take count octets) old new
  pub some : IsTrue (may_hear old.view) → 0 < length octets → 0 < count
  pub most : new.counts ≡ old.counts → IsMostHeard count octets new.view

-- so many octets of a piece of the data connection were taken
pub record TakesReceived (count : ℕ) (octets : List ℕ) (old new : Server) : Type 0 where
  pub within : count ≤ length octets
  pub took : Receives (take count octets) old new
  pub some : IsTrue (may_receive old.view) → 0 < length octets → 0 < count
  pub most : new.counts ≡ old.counts → IsMostReceived count octets new.view

-- so many octets of the data connection were given, into so much room
pub record GivesSome (count room : ℕ) (old new : Server) : Type 0 where
  pub within : count ≤ most_given room (to_give old.view)
  pub now : Steps (GiveFails count) (given_step count) old new
  pub most : new.counts ≡ old.counts → count ≡ most_given room (to_give old.view)

-- room for how many octets a call has
abbrev pub room_of : Cue → ℕ
room_of (ControlOut room) = room
room_of (DataOut room) = room
room_of (Clock moment) = 0
room_of (Hear octets) = 0
room_of ControlEnd = 0
room_of (Listening port) = 0
room_of ListenRefused = 0
room_of (DataOpened host) = 0
room_of DataRefused = 0
room_of (DataHear octets) = 0
room_of DataEnd = 0
room_of DataFault = 0
room_of DataClosed = 0
room_of AsksWants = 0

-- one call was made, and gave this
abbrev pub Makes : Cue → Gift → (old new : Server) → Type 0
Makes (Clock moment) gift old new = (gift ≡ Nothing) × Acts (clock_step moment) old new
Makes (Hear octets) gift old new = (count : ℕ) × (gift ≡ Took count) × TakesHeard count octets old new
Makes (ControlOut room) gift old new = (gift ≡ Octets (take room old.view.owed)) × Acts (control_step (most_given room old.view.owed)) old new
Makes ControlEnd gift old new = (gift ≡ Nothing) × (new ≡ record old { view = control_end old.view })
Makes (Listening port) gift old new = (gift ≡ Nothing) × Acts (listening_step port) old new
Makes ListenRefused gift old new = (gift ≡ Nothing) × Acts no_port_step old new
Makes (DataOpened host) gift old new = (gift ≡ Nothing) × Acts (opened_step host) old new
Makes DataRefused gift old new = (gift ≡ Nothing) × Acts refused_step old new
Makes (DataHear octets) gift old new = (count : ℕ) × (gift ≡ Took count) × TakesReceived count octets old new
Makes (DataOut room) gift old new = (count : ℕ) × (gift ≡ Octets (take count (to_give old.view))) × GivesSome count room old new
Makes DataEnd gift old new = (gift ≡ Nothing) × Steps EndFails end_step old new
Makes DataFault gift old new = (gift ≡ Nothing) × Steps EndFails break_step old new
Makes DataClosed gift old new = (gift ≡ Nothing) × Acts close_step old new
Makes AsksWants gift old new = (gift ≡ Wanted (wants old.view)) × (new ≡ old)

-- so it was made where the device of its tree did not stray in it
abbrev pub MakesOnCourse : Cue → Gift → (old new : Server) → Type 0
MakesOnCourse cue gift old new = KeepsCourse old.counts new.counts → Makes cue gift old new

-- neither count moved in a call
abbrev pub IsCalm : Cue → (old new : Server) → Type 0
IsCalm cue old new = new.counts ≡ old.counts

-- one more was made, and what it gave stands after what was given before; neither count moved in it, or one did
abbrev pub MakesNext : (is_calm : Bool) → Cue → (before after : List Gift) → (old new : Server) → Type 0
MakesNext = OneMore Makes IsCalm

-- each of these calls was made in order, and gave its gift
abbrev pub AreMade : List Cue → List Gift → (old new : Server) → Type 0
AreMade = InOrder Makes

-- each was made: in the first `calm` of them neither count moved, and in the next, if there is one, a count did
abbrev pub ArePlayed : (calm : ℕ) → List Cue → List Gift → (old new : Server) → Type 0
ArePlayed = CalmFirst Makes IsCalm
