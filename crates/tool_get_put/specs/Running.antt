-- What `run` asks and reports, and its exit status (own choice).
use Rattle.std.specs.Prelude.{◌≡◌, ◌⊎◌, ◌++◌, ℕ, Bool, true, false, List, map, flat_map, Option, Some, Result, Ok, Err, IfOk, IsErr}
use Rattle.std.specs.Global.{Global}
use Rattle.std.specs.Io.KnownBytes.{Appends}
use Rattle.ftp_operation.specs.declared.answer.Answer.{Answer}
use Rattle.tool_script.specs.Reading.{ReadsScript}
use Rattle.tool_script.specs.Report.{report}
use Rattle.tool_script.specs.Status.{worst_of}
use Rattle.tool_script.specs.declared.order.Order.{Order}
use Rattle.tool_script.specs.declared.order.Order.TheVariants.{Once, Tries}
use Rattle.tool_script.specs.declared.reading.NoScript.{NoScript}
use Rattle.tool_script.specs.declared.script.Script.{Script}
use Rattle.tool_session.specs.Talking.{SessionExchange}
use Rattle.tool_session.specs.declared.request.Request.{Request}
use Rattle.tool_session.specs.declared.request.Request.TheVariants.{One, Upload}
use Rattle.tool_terminal.specs.declared.status.Status.{Status}
use Rattle.tool_terminal.specs.declared.status.Status.TheVariants.{BadWords, Failed}

-- the worst of the reports, of which `lost` is one like another where the server ended the control connection; where a read or a write of it failed, or the
-- server was waited for no longer, that of a failure
abbrev pub status_by : (worst : Status) → (has_failed : Bool) → Status
status_by worst true = Failed
status_by worst false = worst

-- the same of what came of the orders
abbrev pub result_by : {E : Type 0} → Result Status E → (has_failed : Bool) → Result Status E
result_by (Ok worst) has_failed = Ok (status_by worst has_failed)
result_by (Err fault) has_failed = Err fault

-- what is asked for an order
abbrev pub request_of : Order (List ℕ) → Request
request_of (Once op) = One (Some op)
request_of (Tries path octets how) = Upload (Some (path, octets)) how

-- what was asked, and what was answered
abbrev pub requests_in : List SessionExchange → List Request
requests_in heard = map (λ one. one.0) heard

abbrev pub replies_in : List SessionExchange → List (Answer Global)
replies_in heard = map (λ one. one.1) heard

-- a status is the worst of those of answers; or that, or the one of a failure
abbrev pub IsWorst : List (Answer Global) → Status → Type 0
IsWorst answers status = status ≡ worst_of answers

abbrev pub IsWorstOrFailed : List (Answer Global) → Status → Type 0
IsWorstOrFailed answers status = (status ≡ worst_of answers) ⊎ (status ≡ Failed)

-- A front of the orders was asked, in order. With a status it is all of them, the reports of all answers were written, in order, and the status is such a
-- one.
abbrev pub Reported : {E : Type 0} → (List (Answer Global) → Status → Type 0) → List (Order (List ℕ)) → (old new : Option (List ℕ)) → List SessionExchange
    → Result Status E → Type 0
Reported IsStatus orders old new heard result =
    ((later : List Request) × (map request_of orders ≡ requests_in heard ++ later))
    × IfOk result (λ status. (requests_in heard ≡ map request_of orders) × Appends old new (flat_map report (replies_in heard))
    × IsStatus (replies_in heard) status)

-- so over a control connection; or there is no status, and nothing is written
abbrev pub DoesOrders : {E : Type 0} → (List SessionExchange → Type 0) → List (Order (List ℕ)) → (old new : Option (List ℕ)) → Result Status E → Type 0
DoesOrders hears orders old new result =
    ((heard : List SessionExchange) × hears heard × Reported IsWorstOrFailed orders old new heard result) ⊎ ((new ≡ old) × IsErr result)

-- the orders of what was read are done so; where that is no script, nothing is written, and the status can only be that of bad words
abbrev pub DoesRead : {E : Type 0} → (List SessionExchange → Type 0) → Result (Script Global) NoScript → (old new : Option (List ℕ)) → Result Status E → Type 0
DoesRead hears (Ok script) old new result = DoesOrders hears script.orders.items old new result
DoesRead hears (Err fault) old new result = (new ≡ old) × IfOk result (λ status. status ≡ BadWords)

-- a reader gave a script, or none, and it was done so
abbrev pub RunsScript : {E : Type 0} → (List SessionExchange → Type 0) → (before after old new : Option (List ℕ)) → Result Status E → Type 0
RunsScript hears before after old new result = (read : Result (Script Global) NoScript) × ReadsScript before after read × DoesRead hears read old new result
