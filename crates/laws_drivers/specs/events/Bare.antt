-- A drive begins with no octet of a data connection on its way or in hand, as sessions ask for: its call begins it where none stands (own choice).
use Rattle.std.specs.Prelude.{◌≡◌, List, [], Option}
use Rattle.ftp_ports.specs.Asking.{Asked}
use Rattle.ftp_ports.specs.Channel.{Channel, no_channel}

-- what was given is written, and what came is told
abbrev pub IsBare : Channel → Type 0
IsBare channel = (channel.unwritten ≡ []) × (channel.untold ≡ [])

-- so it is where none stands, whatever was asked before
abbrev pub NoneIsBare : Type 0
NoneIsBare = (asked : Option (List Asked)) → IsBare (no_channel asked)
