-- When a further control connection may bring an answer (own choice: RFC 959, section 3.5, leaves recovery to the user).
use Rattle.std.specs.Prelude.{ℕ, ◌-◌, ◌*◌, ◌+◌, ◌/◌, ◌==◌, ◌&&◌, ◌||◌, max, min, nat_lt, if◌then◌else◌}
use Rattle.std.specs.Prelude.{Bool, true, false, not, Option, Some, None, Result, Ok, Err}
use Rattle.ftp_operation.specs.declared.answer.Answer.{Answer}
use Rattle.ftp_operation.specs.declared.answer.Answer.TheVariants as Answers
use Rattle.tool_connect.specs.declared.again.Loss.{Loss}
use Rattle.tool_connect.specs.declared.again.Loss.TheVariants as Losses
use Rattle.tool_session.specs.declared.fault.SessionFault.{SessionFault}
use Rattle.tool_session.specs.declared.fault.Phase.{Phase}
use Rattle.tool_session.specs.declared.fault.Phase.TheVariants as Phases

-- one that ended before the answer, or none that could be made, where this was under way
abbrev pub loss_amid : Phase → Option Loss
loss_amid Phases.Talking = Some Losses.Ended
loss_amid Phases.Connection = Some Losses.Unconnected
loss_amid phase = None

-- why there is no answer, where a further control connection may bring one
abbrev pub loss_by : {A : Type 0} → Result (Answer A) SessionFault → Option Loss
loss_by (Ok Answers.Lost) = Some Losses.Ended
loss_by (Ok answer) = None
loss_by (Err fault) = loss_amid fault.stage

-- a try got nowhere: the server fell silent, and until then no octet moved over a data connection
abbrev pub is_stalled : (is_silent has_moved : Bool) → Bool
is_stalled is_silent has_moved = is_silent && not has_moved

-- nothing more is tried after a further control connection: it ended too, and the server never said a line, or that try got nowhere
abbrev pub gives_up : Loss → (is_heard is_stalled : Bool) → Bool
gives_up Losses.Ended is_heard is_stalled = not is_heard || is_stalled
gives_up Losses.Unconnected is_heard is_stalled = false

-- for how many seconds a server may be silent over a further control connection, where so many went by over those before: as ever; where it never said a
-- line, what is left of them, and nothing is tried where nothing is; 0 is without a limit
abbrev pub silence_left : (seconds spent : ℕ) → (is_heard : Bool) → Option ℕ
silence_left seconds spent true = Some seconds
silence_left seconds spent false =
    if seconds == 0 then Some 0 else if nat_lt spent seconds then Some (seconds - spent) else None

-- the whole seconds of so many milliseconds, and no more than a number of 32 bits is
abbrev pub full_seconds : ℕ → ℕ
full_seconds millis = min (millis / 1000) 4294967295

-- the seconds of so many milliseconds, rounded up, one at least, and no more than a number of 32 bits is
abbrev pub whole_seconds : ℕ → ℕ
whole_seconds millis = min (max ((millis + 999) / 1000) 1) 4294967295

-- the fewer of so many seconds, of which 0 is no limit, and of what is left of the time for all, in milliseconds, where that has a limit
abbrev pub seconds_left : (seconds : ℕ) → (left : Option ℕ) → ℕ
seconds_left seconds None = seconds
seconds_left seconds (Some left) = if seconds == 0 then whole_seconds left else min seconds (whole_seconds left)

-- a wait of so many seconds ends before the time for all does, of which so many milliseconds are left, where that has a limit
abbrev pub fits : (left : Option ℕ) → (seconds : ℕ) → Bool
fits None seconds = true
fits (Some left) seconds = nat_lt (seconds * 1000) left

-- how many seconds each of so many addresses of a host has to answer: its part of those of the host, and one at least; 0 is without a limit
abbrev pub share_of : (seconds addresses : ℕ) → ℕ
share_of seconds addresses = if seconds == 0 then 0 else max (seconds / max addresses 1) 1
