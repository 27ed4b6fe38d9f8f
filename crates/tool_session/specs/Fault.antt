-- Why a program stops before it has an answer of the server.
use Rattle.std.specs.Prelude.{Result, Ok, Err}
use Rattle.tool_session.specs.declared.fault.Phase.{Phase}
use Rattle.tool_session.specs.declared.fault.Phase.TheVariants as Phases
use Rattle.tool_terminal.specs.declared.status.Status.{Status}
use Rattle.tool_terminal.specs.declared.status.Status.TheVariants as Statuses

-- what was done, with another word for what failed
abbrev pub with_fault : {T E F : Type 0} → (E → F) → Result T E → Result T F
with_fault said (Ok value) = Ok value
with_fault said (Err error) = Err (said error)

-- the exit status of a program that stops here: that of bad words for a bad login, that of a refusal for a listing past its limit, and else that of a failure
abbrev pub stop_status : Phase → Status
stop_status Phases.Login = Statuses.BadWords
stop_status Phases.Listing = Statuses.Refused
stop_status phase = Statuses.Failed
