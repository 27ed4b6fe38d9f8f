-- What the count of device failures tells of a failure.
use Rattle.ftp_tree.specs.Change.{Failures, IsSteady, TellsOne}
use Rattle.ftp_server_replies.specs.declared.fault.Fault.{Fault}
use Rattle.ftp_server_replies.specs.declared.fault.Fault.TheVariants.{Memory, Device}

-- the count of device failures moves on where the device failed, and stays where memory was refused
abbrev pub Counted : Fault → (before after : Failures) → Type 0
Counted Memory before after = IsSteady before after
Counted Device before after = TellsOne before after
