-- Where a drive of the program stands.
use Rattle.std.specs.Prelude.{◌≡◌, ◌⊎◌, ◌<◌, ℕ, Bool, true, List, [], Option, Some, IfErr}
use Rattle.std.specs.Option.{is_some}
use Rattle.std.specs.Io.KnownBytes.{IsAtEnd}
use Rattle.std.specs.declared.result.Result.{Result}
use Rattle.ftp_ports.specs.Asking.{Asked}
use Rattle.ftp_ports.specs.Carrying.{left_of}
use Rattle.ftp_ports.specs.Cause.{IsCause}
use Rattle.ftp_ports.specs.Actions.{Stand, with_owner}
use Rattle.ftp_ports.specs.Driving.{Goes, Leads}
use Rattle.ftp_ports.specs.Channel.{IsLeft, Channel, channel_of, no_channel, with_asked, with_ends}
use Rattle.ftp_ports.specs.Machine.{GetsOn, IsFairEnd, Machine, Progresses, held, side_of, stand_of}
use Rattle.ftp_ports.specs.Unheard.{unheard_of}
use Rattle.ftp_ports.specs.declared.cause.Cause.{Cause}
use Rattle.ftp_ports.specs.declared.control.Control.{Control}
use Rattle.ftp_ports.specs.declared.whole.Fate.TheVariants.{Sound}
use Rattle.ftp_ports.specs.declared.whole.Rest.TheVariants.{Nothing}
use Rattle.ftp_ends.specs.declared.link.Wants.TheVariants as Want
use Rattle.ftp_driver.specs.declared.data.Data.{Data}
use Rattle.ftp_driver.specs.declared.drive.Drive.{Drive}

-- a data connection of which these octets were read and not told
abbrev pub channel_at : {S : Type 0} → (remaining contents : S → Option (List ℕ)) → Option (List Asked) → Data S → (untold : List ℕ) → Channel
channel_at remaining contents asked data_connection untold = channel_of remaining contents asked data_connection.connection data_connection.room untold

-- none stands
abbrev pub HasNone : {S : Type 0} → (remaining contents : S → Option (List ℕ)) → Data S → Type 0
HasNone remaining contents data_connection = (asked : Option (List Asked)) → channel_at remaining contents asked data_connection [] ≡ no_channel asked

-- one stands, and octets may come and go
abbrev pub IsOpenAt : {S : Type 0} → Data S → Type 0
IsOpenAt data_connection = (is_some data_connection.connection.stream ≡ true) × (data_connection.connection.fate ≡ Sound)

-- octets are on their way over one that is open, and its end has no more for it
abbrev pub IsParting : {S : Type 0} → Data S → Type 0
IsParting data_connection =
    IsOpenAt data_connection × (data_connection.connection.rest ≡ Nothing) × (data_connection.connection.at < data_connection.connection.end)

-- one is left, and fairly
abbrev pub LeavesFairly : (old new : Channel) → Type 0
LeavesFairly old new = (asked : Asked) × IsLeft asked old new × IsFairEnd old asked

-- one stands, and its stream is at its end
abbrev pub HasEnded : {S : Type 0} → (remaining : S → Option (List ℕ)) → Data S → Type 0
HasEnded remaining data_connection = (is_some data_connection.connection.stream ≡ true) × IsAtEnd (left_of remaining data_connection.connection)

module _ {S : Type 0} where
  -- whatever its stream tells, its end sees the same
  abbrev pub IsSameChannel : (old new : Data S) → Type 0
  IsSameChannel old new =
      (remaining contents : S → Option (List ℕ)) (asked : Option (List Asked)) → channel_at remaining contents asked new [] ≡ channel_at remaining contents asked old []

  -- one stands still, and another stream is in the place of the one before
  abbrev pub IsExchanged : (before after : S) → (old new : Data S) → Type 0
  IsExchanged before after old new =
      (remaining contents : S → Option (List ℕ)) (asked : Option (List Asked)) →
      (channel_at remaining contents asked old [] ≡ with_ends (remaining before) (contents before) (channel_at remaining contents asked old []))
      × (channel_at remaining contents asked new [] ≡ with_ends (remaining after) (contents after) (channel_at remaining contents asked old []))
      × (old.connection.stream ≡ Some before)

-- it is a drive of the same end, control connection, ports and data connection
abbrev pub IsKept : {K E R W P S : Type 0} → (old new : Drive K E R W P S) → Type 0
IsKept old new = (new.end.ghost_name ≡ old.end.ghost_name) × (new.control.ghost_name ≡ old.control.ghost_name) × (new.ports.ghost_name ≡ old.ports.ghost_name)
    × (new.data.ghost_name ≡ old.data.ghost_name)

-- an end beside its control connection breaks off only for a cause, after this was asked
abbrev pub Why : {R W T : Type 0} → (machine : Machine) → (serves : Bool) → machine.Here → Option (List Asked) → Control R W → Result T Cause → Type 0
Why machine serves here asked control result =
    IfErr result (λ cause. IsCause cause control.failed asked (unheard_of control) (machine.wants here) (machine.may_hear here) serves)

-- by what its end holds, its reader has left, its writer holds, and `Ports` and a stream tell
module _ (machine : Machine) {K E R W P S : Type 0} (here : E → machine.Here) (left : R → Option (List ℕ)) (written : W → Option (List ℕ))
    (history : P → Option (List Asked)) (remaining contents : S → Option (List ℕ)) where
  abbrev pub standing : Drive K E R W P S → Stand (side_of machine)
  standing drive = stand_of machine left written (held (here drive.end.now) (channel_at remaining contents (history drive.ports.now) drive.data.now [])) drive.control.now

  -- it leads on
  abbrev pub LeadsOn : (old new : Drive K E R W P S) → Type 0
  LeadsOn old new = Leads (standing old) (standing new)

  -- it gets on
  abbrev pub ProgressesOn : (old new : Drive K E R W P S) → Type 0
  ProgressesOn old new = Progresses machine (standing old) (standing new)

  -- it gets on, or fails
  abbrev pub Gets : {T : Type 0} → (old new : Drive K E R W P S) → Result T Cause → Type 0
  Gets old new result = GetsOn machine (standing old) (standing new) result

  -- so does a turn; or it leads to where one that serves wants all to be closed
  abbrev pub TurnsOn : {T : Type 0} → (old new : Drive K E R W P S) → Result T Cause → Type 0
  TurnsOn old new result =
      Gets old new result ⊎ (Goes (standing old) (standing new) result × ((machine.serves ≡ true) × (machine.wants (here new.end.now) ≡ Want.CloseAll)))

  -- it leads on, or fails
  abbrev pub Follows : {T : Type 0} → (old new : Drive K E R W P S) → Result T Cause → Type 0
  Follows old new result = Goes (standing old) (standing new) result

-- the same before what was asked last
abbrev pub asked_before : {machine : Machine} → Option (List Asked) → Stand (side_of machine) → Stand (side_of machine)
asked_before asked stand = with_owner (held stand.owner.end (with_asked asked stand.owner.channel)) stand
