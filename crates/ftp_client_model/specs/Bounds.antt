-- How much a client has still to do, whatever comes of it: what is begun, and what is given. A world of both ends comes to rest by
-- these numbers, and needs no clause of its own for it.
use Rattle.std.specs.Prelude.{◌≡◌, ℕ, suc, ◌+◌, ◌-◌, ◌*◌, ◌<◌, ◌≤◌, ◌⊎◌, true, List, [], ◌∷◌, length, Option, Some, None, if◌then◌else◌}
use Rattle.ftp_endpoint.specs.declared.host.Host.{Host}
use Rattle.ftp_client_model.specs.Calls.{hears_octet, listening, listen_refused, data_opened, data_refused, data_end, data_fault}
use Rattle.ftp_client_model.specs.Calls.{receives_octet, gives_control, gives_data, to_give, data_closed, control_end}
use Rattle.ftp_client_model.specs.Failing.{short, listening_short, listen_refused_short, data_opened_short, data_refused_short, data_end_short, data_fault_short}
use Rattle.ftp_operation.specs.declared.op.Op.{Op}
use Rattle.ftp_client_model.specs.Plan.{count_of}
use Rattle.ftp_client_model.specs.Tries.{Run, is_size}
use Rattle.ftp_client_model.specs.View.{View, Job, Idle, Waiting, Doing, Transferring, Told, Flow, Sending, Receiving, stands}
use Rattle.ftp_client_model.specs.declared.client.Abort.{Abort}
use Rattle.ftp_client_model.specs.declared.client.Abort.TheVariants as Aborts
use Rattle.ftp_client_model.specs.declared.client.Replied.{Replied}
use Rattle.ftp_client_model.specs.declared.client.Replied.TheVariants as Replies
use Rattle.ftp_client_model.specs.declared.client.Standing.{Standing}
use Rattle.ftp_client_model.specs.declared.client.Standing.TheVariants as Stands
use Rattle.ftp_client_model.specs.declared.client.Step.{Step}
use Rattle.ftp_client_model.specs.declared.client.Step.TheVariants as Steps

-- ---- what is still to begin: commands, openings and transfers

-- of the login: USER and PASS
abbrev pub login_left : Standing → ℕ
login_left Stands.Greeting = 2
login_left Stands.User = 1
login_left other = 0

-- the steps that can follow one, in the order of `next_step`, where as many follow as can: the client listens, and sends REST
abbrev pub steps_behind : Step → List Step
steps_behind Steps.Kind = Steps.Structure ∷ Steps.Mode ∷ Steps.Listen ∷ Steps.Port ∷ Steps.Restart ∷ Steps.Last ∷ []
steps_behind Steps.Structure = Steps.Mode ∷ Steps.Listen ∷ Steps.Port ∷ Steps.Restart ∷ Steps.Last ∷ []
steps_behind Steps.Mode = Steps.Listen ∷ Steps.Port ∷ Steps.Restart ∷ Steps.Last ∷ []
steps_behind Steps.Listen = Steps.Port ∷ Steps.Restart ∷ Steps.Last ∷ []
steps_behind Steps.Port = Steps.Restart ∷ Steps.Last ∷ []
steps_behind Steps.Passive = Steps.Connect ∷ Steps.Restart ∷ Steps.Last ∷ []
steps_behind Steps.Connect = Steps.Restart ∷ Steps.Last ∷ []
steps_behind Steps.Restart = Steps.Last ∷ []
steps_behind Steps.Source = Steps.Last ∷ []
steps_behind Steps.Last = []

-- what follows a step: those steps, and the reply to the last
abbrev pub steps_left : Step → ℕ
steps_left step = suc (length (steps_behind step))

-- a transfer whose 1yz is awaited has still to begin
abbrev pub opening_left : Replied → ℕ
opening_left Replies.Nothing = 1
opening_left other = 0

-- a Peek, which asks for so many octets, may still send its ABOR
abbrev pub abort_left : Abort → Option ℕ → ℕ
abort_left Aborts.Unsent (Some count) = 1
abort_left abort count = 0

-- of a transfer
abbrev pub transfer_left : Op (List ℕ) → Replied → Abort → ℕ
transfer_left op replied abort = opening_left replied + abort_left abort (count_of op)

-- an operation that is still to begin, with all its steps and its ABOR
abbrev pub operation_left : ℕ
operation_left = steps_left Steps.Kind + 2

-- how many operations of a run can follow this one: for each try that is left SIZE and the try; behind SIZE the try comes at once
abbrev pub operations_behind : Run → Op (List ℕ) → ℕ
operations_behind run op = if is_size op then suc (2 * (run.left - 1)) else 2 * run.left

-- what is still to begin behind an operation: the others of its run
abbrev pub run_left : Option Run → Op (List ℕ) → ℕ
run_left None op = 0
run_left (Some run) op = operation_left * operations_behind run op

-- of the operation, and behind it
abbrev pub job_left : Option Run → Job → ℕ
job_left run Idle = 0
job_left run (Waiting op) = operation_left + run_left run op
job_left run (Doing op step) = steps_left step + (abort_left Aborts.Unsent (count_of op) + run_left run op)
job_left run (Transferring op transfer) = transfer_left op transfer.replied transfer.abort + run_left run op
job_left run (Told answer) = 0

-- what is to begin of the login and of the operation
abbrev pub to_begin : View → ℕ
to_begin v = login_left v.standing + job_left v.run v.job

-- ---- what is still to be given, if nothing more is taken: octets, and a close

-- of what goes over the data connection, what the client has to give
abbrev pub octets_left : Flow → ℕ
octets_left (Sending left mark) = length left
octets_left (Receiving decoder mark) = 0

-- the octets of the operation under way
abbrev pub upload_left : Job → ℕ
upload_left (Transferring op transfer) = octets_left transfer.flow
upload_left other = 0

-- a close that is wanted, and one that will be when what stands is over
abbrev pub closes_left : View → ℕ
closes_left v = (if v.closing then 1 else 0) + (if stands v.connection then 1 else 0)

-- control octets, data octets and closes
abbrev pub still_to_give : View → ℕ
still_to_give v = length v.owed + upload_left v.job + closes_left v

-- ---- the laws

-- a call gives more to do only where it begins something; the answer that a Telnet octet is owed has three octets at most
pub record AddsAtMost (most : ℕ) (old new : View) : Type 0 where
  pub begins : to_begin new ≤ to_begin old
  pub gives : (to_begin new < to_begin old) ⊎ (still_to_give new ≤ still_to_give old + most)

-- a control octet: the answer that it may be owed has three octets
abbrev pub HearingAddsAnAnswer : Type 0
HearingAddsAnAnswer = (v : View) (octet : ℕ) → AddsAtMost 3 v (hears_octet v octet)

-- a data octet is owed no answer
abbrev pub ReceivingAddsNone : Type 0
ReceivingAddsNone = (v : View) (octet : ℕ) → AddsAtMost 0 v (receives_octet v octet)

-- nor does an event of the data connection add anything, or the end of the control connection
pub record EventsAdd (v : View) : Type 0 where
  pub listening_lowers : (port : ℕ) → AddsAtMost 0 v (listening port v)
  pub refused_lowers : AddsAtMost 0 v (listen_refused v)
  pub opened_lowers : (host : Host) → AddsAtMost 0 v (data_opened host v)
  pub unopened_lowers : AddsAtMost 0 v (data_refused v)
  pub end_lowers : AddsAtMost 0 v (data_end v)
  pub fault_lowers : AddsAtMost 0 v (data_fault v)
  pub control_end_lowers : AddsAtMost 0 v (control_end v)
  pub gives_lowers : (count : ℕ) → AddsAtMost 0 v (gives_data count v)

-- however the client stands
abbrev pub EventsAddNone : Type 0
EventsAddNone = (v : View) → EventsAdd v

-- octets that go out, and a close that is done, are so much less to be given
pub record Pays (count : ℕ) (old new : View) : Type 0 where
  pub begins : to_begin new ≤ to_begin old
  pub gives : (to_begin new < to_begin old) ⊎ (still_to_give new + count ≤ still_to_give old)

-- each call that gives, and the close
pub record PullsPay (v : View) : Type 0 where
  pub control_pays : (count : ℕ) → count ≤ length v.owed → Pays count v (gives_control count v)
  pub data_pays : (count : ℕ) → count ≤ length (to_give v) → Pays count v (gives_data count v)
  pub close_pays : v.closing ≡ true → Pays 1 v (data_closed v)

-- however the client stands
abbrev pub GivingPays : Type 0
GivingPays = (v : View) → PullsPay v

-- want of memory makes no more to do either; `hear`, `data_hear` and `data_out` end by it behind the octets that they moved
pub record ShortAdds (v : View) : Type 0 where
  pub hearing : AddsAtMost 0 v (short v)
  pub listening_lowers : (port : ℕ) → AddsAtMost 1 v (listening_short port v)
  pub opened_lowers : AddsAtMost 1 v (data_opened_short v)
  pub end_lowers : AddsAtMost 0 v (data_end_short v)
  pub fault_lowers : AddsAtMost 0 v (data_fault_short v)
  pub refused_lowers : AddsAtMost 0 v (listen_refused_short v)
  pub unopened_lowers : AddsAtMost 0 v (data_refused_short v)

-- however the client stands
abbrev pub ShortAddsAClose : Type 0
ShortAddsAClose = (v : View) → ShortAdds v
