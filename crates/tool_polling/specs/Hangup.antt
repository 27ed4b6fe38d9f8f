-- What is told of a client that hangs up during an upload (own choice; RFC 959, section 4.1.3).
use Rattle.std.specs.Prelude.{nat_lt, if◌then◌else◌}
use Rattle.ftp_ports.specs.declared.ports.Spoken.{Spoken}
use Rattle.ftp_ports.specs.declared.ports.Spoken.TheVariants as Speaks
use Rattle.tool_polling.specs.declared.hangup.DataInput.{DataInput}
use Rattle.tool_polling.specs.declared.hangup.DataInput.TheVariants as Gifts

-- what is told of a control connection beside an upload: its end only where the upload's data connection gave nothing for 10,000 milliseconds
abbrev pub told_beside : Spoken → DataInput → Spoken
told_beside Speaks.Ended Gifts.Something = Speaks.Nothing
told_beside Speaks.Ended (Gifts.NothingFor millis) = if nat_lt millis 10000 then Speaks.Nothing else Speaks.Ended
told_beside Speaks.Octets gift = Speaks.Octets
told_beside Speaks.Nothing gift = Speaks.Nothing
