-- What an action does to what lies between two ends (RFC 959, section 2.3).
use Rattle.std.specs.Prelude.{ℕ, List, [], ◌∷◌, Option, Some, None}
use Rattle.ftp_endpoint.specs.declared.host.Host.{Host}
use Rattle.ftp_endpoint.specs.declared.endpoint.Endpoint.{Endpoint}
use Rattle.ftp_ports.specs.Asking.{Asked, Came, Connected, NotCame, NotConnected, Ended as EndedBy, Reset}
use Rattle.ftp_ports.specs.Actions.{Action, Heard, Said, Read, Ended, Other}
use Rattle.ftp_ports.specs.Machine as machine
use Rattle.ftp_ports.specs.Machine.{Machine, Call, side_of}

-- nothing; control octets are written, read; the end of the control connection is told; a port is listened at, or none is had; a data connection
-- is dialled, accepted, or neither is had; its octets are written, read; it is ended, reset; its end and its break are told
pub data Touch : Type 0 where
  None_of_it : Touch
  Says Reads : (octets : List ℕ) → Touch
  Parts : Touch
  Listens : (port : Option ℕ) → Touch
  Dials : (endpoint : Endpoint) → Touch
  Accepts : (host : Host) → Touch
  IsDenied : (endpoint : Endpoint) → Touch
  IsMissed : Touch
  Writes Takes : (octets : List ℕ) → Touch
  Ends Resets : Touch
  ToldEnd ToldBreak : Touch

-- how one was had, or that none was
abbrev pub had_by : List Asked → Touch
had_by (Came host left written ∷ []) = Accepts host
had_by (Connected endpoint left written ∷ []) = Dials endpoint
had_by (NotCame ∷ []) = IsMissed
had_by (NotConnected endpoint ∷ []) = IsDenied endpoint
had_by other = None_of_it

-- how one was left; a port alone is no connection
abbrev pub touch_of_leaving : Asked → Touch
touch_of_leaving (EndedBy left written) = Ends
touch_of_leaving (Reset left written) = Resets
touch_of_leaving other = None_of_it

abbrev pub touch_of : {Own : Type 0} → Call Own → Touch
touch_of (machine.Listening port) = Listens (Some port)
touch_of machine.NoPort = Listens None
touch_of (machine.Opened host asked at_first so_far rest) = had_by asked
touch_of (machine.Refused asked) = had_by asked
touch_of (machine.Got octets) = Takes octets
touch_of (machine.Wrote octets) = Writes octets
touch_of (machine.Left asked) = touch_of_leaving asked
touch_of machine.End = ToldEnd
touch_of machine.Break = ToldBreak
touch_of other = None_of_it

module _ {end : Machine} where
  abbrev pub touch_in : Action (side_of end) → Touch
  touch_in (Heard octets) = None_of_it
  touch_in (Said octets) = Says octets
  touch_in (Read octets) = Reads octets
  touch_in Ended = Parts
  touch_in (Other call) = touch_of call
