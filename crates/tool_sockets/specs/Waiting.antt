-- What a wait for the control connection and another socket gives (own choice).
use Rattle.ftp_ports.specs.declared.ports.Ready.{Ready}
use Rattle.ftp_ports.specs.declared.ports.Ready.TheVariants as Readies
use Rattle.ftp_ports.specs.declared.ports.Spoken.{Spoken}
use Rattle.ftp_ports.specs.declared.ports.Spoken.TheVariants as Said
use Rattle.tool_sockets.specs.declared.wait.Heeds.{Heeds}
use Rattle.tool_sockets.specs.declared.wait.Heeds.TheVariants as Heed
use Rattle.tool_sockets.specs.declared.wait.Other.{Other}
use Rattle.tool_sockets.specs.declared.wait.Other.TheVariants as Others
use Rattle.tool_sockets.specs.declared.wait.Woke.{Woke}
use Rattle.tool_sockets.specs.declared.wait.Woke.TheVariants as Woken

-- octets of the first before the other where they go first, then the other, and then what is heeded of the first
abbrev pub wakes : Spoken → Other → Heeds → Woke
wakes Said.Octets other Heed.OctetsFirst = Woken.Spoken
wakes said Others.Ready heeds = Woken.Ready
wakes Said.Nothing Others.Waits heeds = Woken.Failed
wakes said Others.Waits Heed.End = Woken.Ended
wakes said Others.Waits heeds = Woken.Spoken

-- the connection that is served behind a wait: none where the control connection ended or the time is over
abbrev pub served_after : Woke → Ready
served_after Woken.Ready = Readies.Data
served_after Woken.Spoken = Readies.Control
served_after Woken.Ended = Readies.Lost
served_after Woken.TimeOver = Readies.Lost
served_after Woken.Failed = Readies.Lost
