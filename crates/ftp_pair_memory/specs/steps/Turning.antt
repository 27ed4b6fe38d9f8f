-- What some turns of a drive over a control connection in memory did (RFC 959, section 2.3).
use Rattle.std.specs.Prelude.{◌≡◌, ◌⊎◌, ◌<◌, ⊤, ℕ, Bool, true, false, List, [], ◌∷◌, length, Option, None, Some}
use Rattle.std.specs.declared.result.Result.{Result}
use Rattle.std.specs.declared.result.Result.TheVariants.{Ok, Err}
use Rattle.ftp_ports.specs.Asking.{Asked}
use Rattle.ftp_ports.specs.Actions.{Action, Other, Stand}
use Rattle.ftp_ports.specs.Driving.{Leads}
use Rattle.ftp_ports.specs.Machine.{Closed, Held, Left}
use Rattle.ftp_ports.specs.Side.{Side}
use Rattle.ftp_ports.specs.declared.cause.Cause.{Cause}
use Rattle.ftp_driver.specs.declared.drive.Turned.{Turned}
use Rattle.ftp_driver.specs.declared.drive.Turned.TheVariants as Turns
use Rattle.ftp_client_driver.specs.Driving.{Ceases}
use Rattle.ftp_client_driver.specs.Side.{Report, client_side}
use Rattle.ftp_client_driver.specs.declared.drive.Driven.{Driven}
use Rattle.ftp_client_model.specs.Failing.{Client}
use Rattle.ftp_ends.specs.declared.link.Wants.TheVariants.{CloseAll}
use Rattle.ftp_operation.specs.Answer.{Said, said_of}
use Rattle.ftp_operation.specs.declared.answer.Answer.{Answer}
use Rattle.ftp_pair_memory.specs.steps.Speaking.{Speaks}
use Rattle.ftp_pair_memory.specs.declared.steps.turn_ending.Course.{Course}
use Rattle.ftp_pair_memory.specs.declared.steps.turn_ending.Course.TheVariants as Courses
use Rattle.ftp_pair_memory.specs.declared.steps.turn_ending.Stop.{Stop}
use Rattle.ftp_pair_memory.specs.declared.steps.turn_ending.Stop.TheVariants as Stops
use Rattle.ftp_server_driver.specs.alone.Driving.{GivesUp}
use Rattle.ftp_server_driver.specs.alone.Side.{Timed, server_side}
use Rattle.ftp_server_model.specs.Calls.{wants}

-- ---- either

-- a turn led to where octets were read that the end did not hear
pub record LeavesUnheard (side : Side) (old new : side.End) : Type 0 where
  pub start : Stand side
  pub now : Stand side
  pub leads : Leads start now
  pub begins : start.owner ≡ old
  pub ends : now.owner ≡ new
  pub none : start.unheard ≡ []
  pub unheard : 0 < length now.unheard

-- ---- the client

-- its drive gave this report, or none
abbrev pub IsReported : {A : Type 0} → Course (Answer A) → Option (Answer A) → (is_heard : Bool) → Type 0
IsReported (Courses.Over answer) report is_heard = (report ≡ Some answer) × (is_heard ≡ true)
IsReported Courses.On report is_heard = ⊥
IsReported (Courses.Off Stops.Unheard) report is_heard = ((answer : _) × (report ≡ Some answer)) × (is_heard ≡ false)
IsReported (Courses.Off Stops.Done) report is_heard = report ≡ None
IsReported (Courses.Off other) report is_heard = ⊥

-- its drive did not break off: it gave this report, or goes on
pub data IsUnbroken {A : Type 0} (turned : Turned (Driven A)) : Type 0 where
  Reports : (answer : Answer A) → turned ≡ Turns.Over (record { report = Some answer; off = None }) → IsUnbroken turned
  Goes_on : (turned ≡ Turns.Later) ⊎ (turned ≡ Turns.More) → IsUnbroken turned

-- its drive is over with an answer only where it did not break off, and it goes on or is over only where all that was read was heard
abbrev pub IsNearCourse : {A : Type 0} → Course (Answer A) → Turned (Driven A) → (is_heard : Bool) → Type 0
IsNearCourse (Courses.Over answer) turned is_heard = (turned ≡ Turns.Over (record { report = Some answer; off = None })) × (is_heard ≡ true)
IsNearCourse Courses.On turned is_heard = ((turned ≡ Turns.Later) ⊎ (turned ≡ Turns.More)) × (is_heard ≡ true)
IsNearCourse (Courses.Off (Stops.Broken cause)) turned is_heard = (report : _) × (turned ≡ Turns.Over (record { report = report; off = Some cause }))
IsNearCourse (Courses.Off Stops.Unheard) turned is_heard = IsUnbroken turned × (is_heard ≡ false)
IsNearCourse (Courses.Off Stops.Done) turned is_heard = turned ≡ Turns.Over (record { report = None; off = None })
IsNearCourse (Courses.Off other) turned is_heard = ⊥

-- it went on
pub record NearGoesOn (old new : Held Client) (came left before after : List ℕ) : Type 0 where
  pub actions : List (Action client_side)
  pub speaks : Speaks {side = client_side} actions old new came left before after

-- it was over with this answer, after these actions: the client reported it, its data connection was left, and it was told so
pub record NearAnswers (answer : Said) (old new : Held Client) (came left before after : List ℕ) : Type 0 where
  pub asked : Asked
  pub midst : List (Action client_side)
  pub speaks : Speaks {side = client_side} (Other Closed ∷ Other (Left asked) ∷ Other (Report (Some answer)) ∷ midst) old new came left before after

-- it broke off for this cause, and the client gave up
pub record NearBreaksOff (cause : Cause) (old new : Held Client) : Type 0 where
  pub start : Stand client_side
  pub now : Stand client_side
  pub failed : Bool
  pub said : Option Said
  pub ceases : Ceases cause failed start now said
  pub begins : start.owner ≡ old
  pub ends : now.owner ≡ new
  pub none : start.unheard ≡ []

-- no turn of it comes after, for this
abbrev pub NearStopped : Stop → (old new : Held Client) → Type 0
NearStopped (Stops.Broken cause) old new = NearBreaksOff cause old new
NearStopped Stops.Unheard old new = LeavesUnheard client_side old new
NearStopped other old new = ⊥

-- so it is of some turns
abbrev pub NearTurned : {A : Type 0} → Course (Answer A) → (old new : Held Client) → (came left before after : List ℕ) → Type 0
NearTurned (Courses.Over answer) old new came left before after = NearAnswers (said_of answer) old new came left before after
NearTurned Courses.On old new came left before after = NearGoesOn old new came left before after
NearTurned (Courses.Off stop) old new came left before after = NearStopped stop old new

-- ---- the server

-- its drive is over or goes on only where it did not break off, and all that was read was heard
abbrev pub IsFarCourse : Course ⊤ → Result (Turned ⊤) Cause → (is_heard : Bool) → Type 0
IsFarCourse (Courses.Over over) turned is_heard = (turned ≡ Ok (Turns.Over over)) × (is_heard ≡ true)
IsFarCourse Courses.On turned is_heard = ((turned ≡ Ok Turns.Later) ⊎ (turned ≡ Ok Turns.More)) × (is_heard ≡ true)
IsFarCourse (Courses.Off (Stops.Broken cause)) turned is_heard = turned ≡ Err cause
IsFarCourse (Courses.Off Stops.Unheard) turned is_heard = ((whole : _) × (turned ≡ Ok whole)) × (is_heard ≡ false)
IsFarCourse (Courses.Off other) turned is_heard = ⊥

-- its drive went on
pub record FarGoesOn (old new : Held Timed) (came left before after : List ℕ) : Type 0 where
  pub actions : List (Action server_side)
  pub speaks : Speaks {side = server_side} actions old new came left before after

-- it was over, after these actions: the server was done with the control connection, and its data connection was left
pub record FarLeaves (old new : Held Timed) (came left before after : List ℕ) : Type 0 where
  pub asked : Asked
  pub midst : List (Action server_side)
  pub speaks : Speaks {side = server_side} (Other (Left asked) ∷ midst) old new came left before after
  pub over : wants new.end.server.view ≡ CloseAll

-- it broke off for this cause, and the server gave up
pub record FarBreaksOff (cause : Cause) (old new : Held Timed) : Type 0 where
  pub start : Stand server_side
  pub now : Stand server_side
  pub failed : Bool
  pub gives_up : GivesUp cause failed start now
  pub begins : start.owner ≡ old
  pub ends : now.owner ≡ new
  pub none : start.unheard ≡ []

-- no turn of it comes after, for this
abbrev pub FarStopped : Stop → (old new : Held Timed) → Type 0
FarStopped (Stops.Broken cause) old new = FarBreaksOff cause old new
FarStopped Stops.Unheard old new = LeavesUnheard server_side old new
FarStopped other old new = ⊥

-- so it is of some turns
abbrev pub FarTurned : Course ⊤ → (old new : Held Timed) → (came left before after : List ℕ) → Type 0
FarTurned (Courses.Over over) old new came left before after = FarLeaves old new came left before after
FarTurned Courses.On old new came left before after = FarGoesOn old new came left before after
FarTurned (Courses.Off stop) old new came left before after = FarStopped stop old new
