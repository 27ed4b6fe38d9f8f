-- Why an operation was not answered over connections in memory (own choice).
use Rattle.std.specs.Prelude.{◌≡◌, ◌⊎◌, ⊤, ℕ, zero, suc, List, [], ◌∷◌, length, IsTrue, Option, None, Some}
use Rattle.ftp_ports.specs.Channel.{Channel}
use Rattle.ftp_ports.specs.Machine.{Held, held}
use Rattle.ftp_client_model.specs.Calls.{is_busy}
use Rattle.ftp_client_model.specs.Failing.{Client as NearEnd, Holds}
use Rattle.ftp_operation.specs.declared.answer.Answer.{Answer}
use Rattle.ftp_operation.specs.declared.op.Op.{Op}
use Rattle.ftp_pair_memory.specs.streams.MemoryEnds.{CannotMeet, IsKnown, IsUnknown, Meets, plain_in, told_channel}
use Rattle.ftp_pair_memory.specs.steps.Seating.{Pair, nothing_left}
use Rattle.ftp_pair_memory.specs.steps.Taking.{Begins}
use Rattle.ftp_pair_memory.specs.steps.Turning.{FarGoesOn, FarLeaves, FarStopped, NearGoesOn, NearStopped}
use Rattle.ftp_pair_memory.specs.declared.streams.memory_end.MemoryEnd.{MemoryEnd}
use Rattle.ftp_pair_memory.specs.declared.steps.turn_ending.Course.{Course}
use Rattle.ftp_pair_memory.specs.declared.steps.turn_ending.Course.TheVariants as Courses
use Rattle.ftp_pair_memory.specs.declared.steps.turn_ending.Stop.{Stop}
use Rattle.ftp_pair_memory.specs.declared.steps.turn_ending.Stop.TheVariants as Stops
use Rattle.ftp_server_driver.specs.alone.Side.{Timed}

-- ---- a turn

-- a turn of an end was prepared, it saw this of its data connection at first and this at last, and after it its ports knew where that is
pub record IsTurn (own peer own_now peer_now : MemoryEnd) (saw sees : Channel) : Type 0 where
  pub met : MemoryEnd
  pub meets : Meets own peer met peer_now
  pub at_first : saw ≡ told_channel met
  pub left : MemoryEnd
  pub at_last : sees ≡ told_channel left
  pub known : IsKnown left own_now

-- a turn of an end was prepared, and after it its ports did not know
pub record EndsUnknown (own peer own_now peer_now : MemoryEnd) : Type 0 where
  pub met : MemoryEnd
  pub meets : Meets own peer met peer_now
  pub unknown : IsUnknown own_now

-- in a turn of the client, or of the server, this was done
pub record NearWent (Did : (old new : Held NearEnd) → Type 0) (old new : Pair) : Type 0 where
  pub saw : Channel
  pub sees : Channel
  pub turn : IsTurn old.near old.far new.near new.far saw sees
  pub did : Did (held old.client saw) (held new.client sees)
  pub server : new.server ≡ old.server

-- the same of the server
pub record FarWent (Did : (old new : Held Timed) → Type 0) (old new : Pair) : Type 0 where
  pub saw : Channel
  pub sees : Channel
  pub turn : IsTurn old.far old.near new.far new.near saw sees
  pub did : Did (held old.server saw) (held new.server sees)
  pub client : new.client ≡ old.client

-- its drive goes on
abbrev pub NearOn : (old new : Pair) → Type 0
NearOn old new =
    NearWent (λ was now. NearGoesOn was now old.control.to_client new.control.to_client old.control.to_server new.control.to_server) old new

-- the same of the server
abbrev pub FarOn : (old new : Pair) → Type 0
FarOn old new =
    FarWent (λ was now. FarGoesOn was now old.control.to_server new.control.to_server old.control.to_client new.control.to_client) old new

-- no turn comes after, for this
abbrev pub NearStops : Stop → (old new : Pair) → Type 0
NearStops Stops.Unmet old new = CannotMeet old.near old.far
NearStops Stops.Unknown old new = EndsUnknown old.near old.far new.near new.far
NearStops stop old new = NearWent (λ was now. NearStopped stop was now) old new

-- the same of the server
abbrev pub FarStops : Stop → (old new : Pair) → Type 0
FarStops Stops.Unmet old new = CannotMeet old.far old.near
FarStops Stops.Unknown old new = EndsUnknown old.far old.near new.far new.near
FarStops Stops.Done old new =
    FarWent (λ was now. FarLeaves was now old.control.to_server new.control.to_server old.control.to_client new.control.to_client) old new
FarStops stop old new = FarWent (λ was now. FarStopped stop was now) old new

-- so it is of some turns
abbrev pub NearGoes : {A : Type 0} → Course (Answer A) → (old new : Pair) → Type 0
NearGoes (Courses.Over answer) old new = ⊤
NearGoes Courses.On old new = NearOn old new
NearGoes (Courses.Off stop) old new = NearStops stop old new

-- the same of the server
abbrev pub FarGoes : Course ⊤ → (old new : Pair) → Type 0
FarGoes (Courses.Over over) old new = FarStops Stops.Done old new
FarGoes Courses.On old new = FarOn old new
FarGoes (Courses.Off stop) old new = FarStops stop old new

-- ---- rounds

-- the server had a turn, and then the client; both go on
pub record Rounded (old new : Pair) : Type 0 where
  pub mid : Pair
  pub first : FarOn old mid
  pub second : NearOn mid new

-- the server had a turn and goes on, and after the client's no turn comes
pub record StopsSecond (stop : Stop) (old new : Pair) : Type 0 where
  pub mid : Pair
  pub first : FarOn old mid
  pub second : NearStops stop mid new

-- the round was the last one, for this
abbrev pub StopsIn : Stop → (old new : Pair) → Type 0
StopsIn stop old new = FarStops stop old new ⊎ StopsSecond stop old new

-- so it is of a round, by how it ended
abbrev pub RoundGoes : {A : Type 0} → Course (Answer A) → (old new : Pair) → Type 0
RoundGoes (Courses.Over answer) old new = ⊤
RoundGoes Courses.On old new = Rounded old new
RoundGoes (Courses.Off stop) old new = StopsIn stop old new

-- rounds led from here to there: so both stood before each, the last one first
abbrev pub Made : List Pair → (old new : Pair) → Type 0
Made [] old new = new ≡ old
Made (stand ∷ before) old new = Made before old stand × Rounded stand new

-- at the first so many of these nothing lay in the control connection
abbrev pub AreSilent : ℕ → List Pair → Type 0
AreSilent zero stands = ⊤
AreSilent (suc count) [] = ⊥
AreSilent (suc count) (stand ∷ before) = (stand.control ≡ nothing_left) × AreSilent count before

-- why no round comes after: the last one was stopped, or before each of the last eight nothing lay in the control connection, or all were made
pub data IsEnough (stands : List Pair) (mid new : Pair) : Type 0 where
  Stopped : (stop : Stop) → StopsIn stop mid new → IsEnough stands mid new
  Silent : new ≡ mid → AreSilent 8 stands → IsEnough stands mid new
  Spent : new ≡ mid → length stands ≡ 1099511627776 → IsEnough stands mid new

-- ---- an operation

-- both took turns in rounds, and in none of them the client had an answer
pub record Unsettled (old new : Pair) : Type 0 where
  pub stands : List Pair
  pub mid : Pair
  pub made : Made stands old mid
  pub enough : IsEnough stands mid new

-- the client was busy, and is as it was
abbrev pub IsRefused : (old new : NearEnd) → Type 0
IsRefused old new = IsTrue (is_busy old.view) × Holds old new old.view

-- it began the operation, and so it ended
pub record BeginsUnsettled (op : Op (List ℕ)) (old new : Pair) : Type 0 where
  pub begun : NearEnd
  pub begins : Begins op (held old.client (plain_in old.near.stream)) (held begun (plain_in old.near.stream))
  pub unsettled : Unsettled (record old { client = begun }) new

-- an operation was not answered: the client was busy, and nothing was done; or it was begun
pub data IsUnanswered (op : Op (List ℕ)) (old new : Pair) : Type 0 where
  Busy : IsRefused old.client new.client → new ≡ record old { client = new.client } → IsUnanswered op old new
  Begun : BeginsUnsettled op old new → IsUnanswered op old new

-- so it is of all rounds, by whether there is an answer
abbrev pub SettlesNot : {A : Type 0} → Option (Answer A) → (old new : Pair) → Type 0
SettlesNot (Some answer) old new = ⊤
SettlesNot None old new = Unsettled old new

-- so it is of an operation
abbrev pub AsksUnanswered : {A : Type 0} → Op (List ℕ) → Option (Answer A) → (old new : Pair) → Type 0
AsksUnanswered op (Some answer) old new = ⊤
AsksUnanswered op None old new = IsUnanswered op old new
