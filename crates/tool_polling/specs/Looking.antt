-- What a look at a data connection and the control connection beside it tells (own choice).
use Rattle.std.specs.Prelude.{ℕ, ◌+◌, ◌-◌, ◌^◌, min, Bool, true, false}
use Rattle.ftp_ports.specs.declared.ports.Beside.{Beside}
use Rattle.ftp_ports.specs.declared.ports.Beside.TheVariants as Besides
use Rattle.ftp_ports.specs.declared.ports.Ready.{Ready}
use Rattle.ftp_ports.specs.declared.ports.Ready.TheVariants as Readies
use Rattle.ftp_ports.specs.declared.ports.Spoken.{Spoken}
use Rattle.ftp_ports.specs.declared.ports.Spoken.TheVariants as Speaks
use Rattle.tool_polling.specs.declared.link.LinkTime.{LinkTime}
use Rattle.tool_polling.specs.declared.link.LinkTime.TheVariants as Times
use Rattle.tool_sockets.specs.declared.wait.Other.{Other}
use Rattle.tool_sockets.specs.declared.wait.Other.TheVariants as Others
use Rattle.tool_sockets.specs.declared.wait.Woke.{Woke}
use Rattle.tool_sockets.specs.declared.wait.Woke.TheVariants as Woken

-- a look ends the waiting: the data connection is ready, or what of the control connection is awaited beside is there
abbrev pub is_told : Beside → Spoken → Other → Bool
is_told beside control Others.Ready = true
is_told Besides.Nothing control Others.Waits = false
is_told Besides.End Speaks.Nothing Others.Waits = false
is_told Besides.Octets Speaks.Nothing Others.Waits = false
is_told Besides.End Speaks.Octets Others.Waits = true
is_told Besides.End Speaks.Ended Others.Waits = true
is_told Besides.Octets Speaks.Octets Others.Waits = true
is_told Besides.Octets Speaks.Ended Others.Waits = true

-- the connection that is served behind a look: where neither has anything, a read or a write of the data connection says why
abbrev pub ready_after : Woke → Ready
ready_after Woken.Ready = Readies.Data
ready_after Woken.Spoken = Readies.Control
ready_after Woken.Ended = Readies.Lost
ready_after Woken.TimeOver = Readies.Data
ready_after Woken.Failed = Readies.Data

-- until when the last octets of a download wait: 30,000 milliseconds behind the first look that found the control connection ended
abbrev pub last_until : LinkTime → (now : ℕ) → ℕ
last_until Times.Lasts now = min (now + 30000) (2 ^ 64 - 1)
last_until (Times.EndsAt until) now = until
last_until Times.IsOver now = now
