-- What streams tell of octets that are left or were written, and ports of what was asked, is let go (RFC 959, section 3.2): what moved stands in the actions.
use Rattle.std.specs.Prelude.{false, [], None, map}
use Rattle.ftp_ports.specs.Asking.{Asked, Came, Connected, Ended, Reset}
use Rattle.ftp_ports.specs.Actions.{Action, Stand, Other}
use Rattle.ftp_ports.specs.Channel.{Channel}
use Rattle.ftp_ports.specs.Machine as machine
use Rattle.ftp_ports.specs.Machine.{Call, Held, Machine, held, side_of}
use Rattle.ftp_ports.specs.Side.{Side}

-- what was asked, without octets
abbrev pub plain_asked : Asked → Asked
plain_asked (Came host left written) = Came host None None
plain_asked (Connected endpoint left written) = Connected endpoint None None
plain_asked (Ended left written) = Ended None None
plain_asked (Reset left written) = Reset None None
plain_asked other = other

-- what an end sees of its data connection, without octets and requests
abbrev pub plain_channel : Channel → Channel
plain_channel channel = record channel { left = None; written = None; asked = None }

-- what an end holds, beside that
abbrev pub plain_held : {Here : Type 0} → Held Here → Held Here
plain_held at = held at.end (plain_channel at.channel)

-- a call, without the octets of its request
abbrev pub plain_call : {Own : Type 0} → Call Own → Call Own
plain_call (machine.Opened host asked at_first so_far rest) = machine.Opened host (map plain_asked asked) None None rest
plain_call (machine.Refused asked) = machine.Refused (map plain_asked asked)
plain_call (machine.Left asked) = machine.Left (plain_asked asked)
plain_call other = other

module _ {end : Machine} where
  -- an action, of which a call is so
  abbrev pub plain : Action (side_of end) → Action (side_of end)
  plain (Other call) = Other (plain_call call)
  plain action = action

module _ {side : Side} where
  -- an end beside a control connection that did not end, where all that was read was heard; what was read and said stands in the actions alone
  abbrev pub quiet : side.End → Stand side
  quiet owner = record { owner = owner; left = record { octets = None; ended = false }; unheard = []; written = None }
