-- A reply leaves nothing of a client's operation that is over: no port and no link of it is asked for, and none stands.
use Rattle.std.proofs.Common.{◌≡◌, ℕ, List, [], ◌∷◌, Bool, true, false, ◌&&◌, ◌==◌, Option, Some, None, refl, sym, ◌∙◌}
use Rattle.std.specs.Prelude.{if◌then◌else◌}
use Rattle.std.specs.Option.{option_map}
use Rattle.ftp_command.specs.declared.command.Command.{Command}
use Rattle.ftp_nvt.specs.Lines.{NvtEvent, line, too_long, owed}
use Rattle.ftp_operation.specs.Answer.{Said, Refused, Foreign}
use Rattle.ftp_operation.specs.declared.op.Op.{Op}
use Rattle.ftp_endpoint.specs.declared.endpoint.Endpoint.{Endpoint}
use Rattle.ftp_reply.specs.Lines.{Text, joined}
use Rattle.ftp_reply.specs.Reader.{Heard, GoesOn, Says, Faulty, Between, line_heard}
use Rattle.ftp_reply.specs.Values.{passive_value, extended_value, mark_value}
use Rattle.ftp_ends.specs.Ear.{ear}
use Rattle.ftp_ends.specs.Link.{same_host}
use Rattle.ftp_client_model.specs.Busy.{LeavesNone, is_over}
use Rattle.ftp_client_model.specs.Calls.{reply_limit, line_taken, event_taken, events_taken, hears_octet, hears}
use Rattle.ftp_client_model.specs.Dialogue.{sends_if, last_job, placed, begins, goes_on, next_job, finishes_by, finishes, finishes_read, greeted, enters_with, login_ends, user_answered, pass_answered, answer_in, set_accepted, dials, endpoint_named, port_named, passive_named, step_done, intermediate, awaits_reply, step_answered, judged, answers_by, answers_job, closes, has_begun, is_given, closes_once_given_by, closes_once_given, is_to_abort, sends_abort, aborts_once_enough, carries_on, with_reply, awaited, marked_flow, unless_open, before_opening, behind_opening, abort_answered, transfer_answered, job_answered, stand_answered, judged_reply, answered}
use Rattle.ftp_client_model.specs.Failing.{short}
use Rattle.ftp_client_model.specs.Octets.{flow_of}
use Rattle.ftp_client_model.specs.Plan.{asked_settings, first_step, next_step, settings_behind as set_by, command_of, is_extended}
use Rattle.ftp_client_model.specs.Replies.{Verdict, Preliminary, Completion, Intermediate, Negative, Closing, Displaced, verdict_of}
use Rattle.ftp_client_model.specs.Tries.{run_at}
use Rattle.ftp_client_model.specs.View.{View, Job, Idle, Waiting, Doing, Transferring, Told, Transfer, Flow, dropped, fails_by, strange}
use Rattle.ftp_client_model.specs.declared.client.Abort.{Abort}
use Rattle.ftp_client_model.specs.declared.client.Abort.TheVariants as Aborts
use Rattle.ftp_client_model.specs.declared.client.Failure.{Failure}
use Rattle.ftp_client_model.specs.declared.client.Failure.TheVariants as Failures
use Rattle.ftp_client_model.specs.declared.client.ClientLink.{ClientLink}
use Rattle.ftp_client_model.specs.declared.client.ClientLink.TheVariants as Data
use Rattle.ftp_client_model.specs.declared.client.Replied.{Replied}
use Rattle.ftp_client_model.specs.declared.client.Replied.TheVariants as Replies
use Rattle.ftp_client_model.specs.declared.client.Standing.{Standing}
use Rattle.ftp_client_model.specs.declared.client.Standing.TheVariants as Stands
use Rattle.ftp_client_model.specs.declared.client.Step.{Step}
use Rattle.ftp_client_model.specs.declared.client.Step.TheVariants as Steps

-- ---- an operation under way, and one that is over

-- nothing is said of a client whose operation is under way
pub under_way : (v : View) → is_over v.job ≡ false → LeavesNone v
under_way v under over = absurd (let e : true ≡ false = sym over ∙ under in cc)

-- a client that has something of a data connection has an operation under way
pub holds_some : (v : View) (connection : ClientLink) → v.connection ≡ connection → (connection ≡ Data.Free → ⊥) → LeavesNone v → is_over v.job ≡ false
holds_some v connection is some left =
    elim (is_over v.job) as (λ b. is_over v.job ≡ b → is_over v.job ≡ false) [ true ↦ λ over. absurd (some (sym is ∙ left over)) | false ↦ λ under. under ] refl

-- a choice of two
pub if_left : (b : Bool) (v w : View) → LeavesNone v → LeavesNone w → LeavesNone (if b then v else w)
if_left true v w one other = one
if_left false v w one other = other

-- a failure drops what stands
pub fails_left : (standing : Standing) (failure : Failure) (v : View) → LeavesNone v → LeavesNone (fails_by standing failure v)
fails_left Stands.Greeting failure v left = λ over. refl
fails_left Stands.User failure v left = λ over. refl
fails_left Stands.Pass failure v left = λ over. refl
fails_left Stands.Entered failure v left = λ over. refl
fails_left (Stands.Failed before) failure v left = left

-- so does what has no place
strange_left : (v : View) → LeavesNone v → LeavesNone (strange v)
strange_left v left = fails_left v.standing Failures.Strange v left

-- where a growth was refused
pub short_left : (v : View) → LeavesNone v → LeavesNone (short v)
short_left v left = fails_left v.standing Failures.Memory v left

-- ---- a step begins

-- what is sent changes nothing of that
sends_left : (command : Option (Command (List ℕ))) (v : View) → LeavesNone v → LeavesNone (sends_if command v)
sends_left None v left = left
sends_left (Some command) v left = left

-- so is one whose own command is sent
last_under : (op : Op (List ℕ)) (flow : Option Flow) → is_over (last_job op flow) ≡ false
last_under op None = refl
last_under op (Some flow) = refl

-- an operation at a step is under way
placed_left : (op : Op (List ℕ)) (step : Step) (v : View) → LeavesNone (placed op step v)
placed_left op Steps.Kind v =
    sends_left (command_of v op Steps.Kind) (record v { job = Doing op Steps.Kind }) (under_way (record v { job = Doing op Steps.Kind }) refl)
placed_left op Steps.Structure v =
    sends_left (command_of v op Steps.Structure) (record v { job = Doing op Steps.Structure }) (under_way (record v { job = Doing op Steps.Structure }) refl)
placed_left op Steps.Mode v =
    sends_left (command_of v op Steps.Mode) (record v { job = Doing op Steps.Mode }) (under_way (record v { job = Doing op Steps.Mode }) refl)
placed_left op Steps.Listen v = under_way (placed op Steps.Listen v) refl
placed_left op Steps.Port v =
    sends_left (command_of v op Steps.Port) (record v { job = Doing op Steps.Port }) (under_way (record v { job = Doing op Steps.Port }) refl)
placed_left op Steps.Passive v =
    sends_left (command_of v op Steps.Passive) (record v { job = Doing op Steps.Passive }) (under_way (record v { job = Doing op Steps.Passive }) refl)
placed_left op Steps.Connect v =
    sends_left (command_of v op Steps.Connect) (record v { job = Doing op Steps.Connect }) (under_way (record v { job = Doing op Steps.Connect }) refl)
placed_left op Steps.Restart v =
    sends_left (command_of v op Steps.Restart) (record v { job = Doing op Steps.Restart }) (under_way (record v { job = Doing op Steps.Restart }) refl)
placed_left op Steps.Source v =
    sends_left (command_of v op Steps.Source) (record v { job = Doing op Steps.Source }) (under_way (record v { job = Doing op Steps.Source }) refl)
placed_left op Steps.Last v =
    sends_left (command_of v op Steps.Last) (record v { job = last_job op (flow_of op) }) (under_way (record v { job = last_job op (flow_of op) }) (last_under op (flow_of op)))

-- an operation that begins is under way
pub begins_left : (op : Op (List ℕ)) (v : View) → LeavesNone (begins op v)
begins_left op v = placed_left op (first_step v.settings op) v

-- and one that goes on
pub goes_on_left : (op : Op (List ℕ)) (step : Step) (v : View) → LeavesNone (goes_on op step v)
goes_on_left op step v = placed_left op (next_step v.settings op step) v

-- the end of an operation drops what stands
finishes_by_left : (next : Option (Op (List ℕ))) (answer : Said) (v : View) → LeavesNone (finishes_by next answer v)
finishes_by_left None answer v = λ over. refl
finishes_by_left (Some op) answer v = begins_left op (record (dropped v) { run = option_map (run_at op) v.run })

-- so does that of the operation under way
pub finishes_left : (answer : Said) (v : View) → LeavesNone (finishes answer v)
finishes_left answer v = finishes_by_left (next_job v.run v.job answer) answer v

-- or what was said has no place
finishes_read_left : (answer : Option Said) (v : View) → LeavesNone v → LeavesNone (finishes_read answer v)
finishes_read_left None v left = strange_left v left
finishes_read_left (Some answer) v left = finishes_left answer v

-- ---- the login

-- the greeting
greeted_left : (verdict : Verdict) (code : ℕ) (v : View) → LeavesNone v → LeavesNone (greeted verdict code v)
greeted_left Preliminary code v left = if_left (code == 120) v (strange v) left (strange_left v left)
greeted_left Completion code v left = left
greeted_left Intermediate code v left = strange_left v left
greeted_left Negative code v left = strange_left v left
greeted_left Closing code v left = strange_left v left
greeted_left Displaced code v left = strange_left v left

-- what waits begins
enters_left : (job : Job) (v : View) → LeavesNone v → LeavesNone (enters_with job v)
enters_left Idle v left = left
enters_left (Waiting op) v left = begins_left op v
enters_left (Doing op step) v left = left
enters_left (Transferring op transfer) v left = left
enters_left (Told answer) v left = left

-- the end of the login
login_left : (v : View) → LeavesNone v → LeavesNone (login_ends v)
login_left v left = enters_left v.job (record v { standing = Stands.Entered }) left

-- the answer to USER
user_left : (verdict : Verdict) (v : View) → LeavesNone v → LeavesNone (user_answered verdict v)
user_left Preliminary v left = strange_left v left
user_left Completion v left = login_left v left
user_left Intermediate v left = left
user_left Negative v left = login_left v left
user_left Closing v left = strange_left v left
user_left Displaced v left = strange_left v left

-- the answer to PASS
pass_left : (verdict : Verdict) (v : View) → LeavesNone v → LeavesNone (pass_answered verdict v)
pass_left Preliminary v left = strange_left v left
pass_left Completion v left = login_left v left
pass_left Intermediate v left = strange_left v left
pass_left Negative v left = login_left v left
pass_left Closing v left = strange_left v left
pass_left Displaced v left = strange_left v left

-- ---- a step

-- a link is dialled by an operation under way
dials_left : (op : Op (List ℕ)) (endpoint : Endpoint) (v : View) → LeavesNone (dials op endpoint v)
dials_left op endpoint v = goes_on_left op Steps.Passive (record v { connection = Data.Connecting endpoint })

-- so is one to an endpoint that was named
named_left : (endpoint : Option Endpoint) (op : Op (List ℕ)) (v : View) → LeavesNone v → LeavesNone (endpoint_named endpoint op v)
named_left None op v left = strange_left v left
named_left (Some endpoint) op v left =
    if_left (same_host endpoint.host v.peer) (dials op endpoint v) (finishes Foreign v) (dials_left op endpoint v) (finishes_left Foreign v)

-- or to a port
port_named_left : (port : Option ℕ) (op : Op (List ℕ)) (v : View) → LeavesNone v → LeavesNone (port_named port op v)
port_named_left None op v left = strange_left v left
port_named_left (Some port) op v left = dials_left op (record { host = v.peer; port = port }) v

-- whichever was asked for
passive_left : (extended : Bool) (op : Op (List ℕ)) (text : Text) (v : View) → LeavesNone v → LeavesNone (passive_named extended op text v)
passive_left true op text v left = port_named_left (extended_value text) op v left
passive_left false op text v left = named_left (passive_value text) op v left

-- an operation goes on behind its settings
set_left : (op : Op (List ℕ)) (step : Step) (v : View) → LeavesNone (set_accepted op step v)
set_left op step v = goes_on_left op step (record v { settings = set_by step v.settings (asked_settings op) })

-- a 2yz at a step
completed_left : (op : Op (List ℕ)) (step : Step) (texts : List Text) (v : View) → LeavesNone v → LeavesNone (step_done op step texts v)
completed_left op Steps.Kind texts v left = set_left op Steps.Kind v
completed_left op Steps.Structure texts v left = set_left op Steps.Structure v
completed_left op Steps.Mode texts v left = set_left op Steps.Mode v
completed_left op Steps.Listen texts v left = strange_left v left
completed_left op Steps.Port texts v left = goes_on_left op Steps.Port v
completed_left op Steps.Passive texts v left = passive_left (is_extended v op) op (joined texts) v left
completed_left op Steps.Connect texts v left = strange_left v left
completed_left op Steps.Restart texts v left = strange_left v left
completed_left op Steps.Source texts v left = strange_left v left
completed_left op Steps.Last texts v left = finishes_read_left (answer_in op texts) v left

-- a 3yz at a step
intermediate_left : (op : Op (List ℕ)) (step : Step) (v : View) → LeavesNone v → LeavesNone (intermediate op step v)
intermediate_left op Steps.Kind v left = strange_left v left
intermediate_left op Steps.Structure v left = strange_left v left
intermediate_left op Steps.Mode v left = strange_left v left
intermediate_left op Steps.Listen v left = strange_left v left
intermediate_left op Steps.Port v left = strange_left v left
intermediate_left op Steps.Passive v left = strange_left v left
intermediate_left op Steps.Connect v left = strange_left v left
intermediate_left op Steps.Restart v left = goes_on_left op Steps.Restart v
intermediate_left op Steps.Source v left = goes_on_left op Steps.Source v
intermediate_left op Steps.Last v left = strange_left v left

-- any reply at a step
step_left : (op : Op (List ℕ)) (step : Step) (verdict : Verdict) (code : ℕ) (texts : List Text) (v : View) → LeavesNone v
    → LeavesNone (step_answered op step verdict code texts v)
step_left op step Preliminary code texts v left = strange_left v left
step_left op step Completion code texts v left = completed_left op step texts v left
step_left op step Intermediate code texts v left = intermediate_left op step v left
step_left op step Negative code texts v left =
    if_left (awaits_reply step) (finishes (Refused code) v) (strange v) (finishes_left (Refused code) v) (strange_left v left)
step_left op step Closing code texts v left = strange_left v left
step_left op step Displaced code texts v left = strange_left v left

-- ---- a transfer

-- a transfer is answered as any operation, or waits
answers_by_left : (replied : Replied) (abort : Abort) (connection : ClientLink) (op : Op (List ℕ)) (flow : Flow) (v : View) → LeavesNone v
    → LeavesNone (answers_by replied abort connection op flow v)
answers_by_left (Replies.Final code) Aborts.Unsent (Data.Over ending) op flow v left = finishes_read_left (judged ending Aborts.Unsent code op flow) v left
answers_by_left (Replies.Final code) Aborts.Unsent Data.Free op flow v left = left
answers_by_left (Replies.Final code) Aborts.Unsent Data.ListenWanted op flow v left = left
answers_by_left (Replies.Final code) Aborts.Unsent (Data.Listening other) op flow v left = left
answers_by_left (Replies.Final code) Aborts.Unsent (Data.Connecting endpoint) op flow v left = left
answers_by_left (Replies.Final code) Aborts.Unsent (Data.Accepting other) op flow v left = left
answers_by_left (Replies.Final code) Aborts.Unsent Data.Open op flow v left = left
answers_by_left (Replies.Final code) Aborts.Answered (Data.Over ending) op flow v left = finishes_read_left (judged ending Aborts.Answered code op flow) v left
answers_by_left (Replies.Final code) Aborts.Answered Data.Free op flow v left = left
answers_by_left (Replies.Final code) Aborts.Answered Data.ListenWanted op flow v left = left
answers_by_left (Replies.Final code) Aborts.Answered (Data.Listening other) op flow v left = left
answers_by_left (Replies.Final code) Aborts.Answered (Data.Connecting endpoint) op flow v left = left
answers_by_left (Replies.Final code) Aborts.Answered (Data.Accepting other) op flow v left = left
answers_by_left (Replies.Final code) Aborts.Answered Data.Open op flow v left = left
answers_by_left (Replies.Final code) Aborts.Sent connection op flow v left = left
answers_by_left Replies.Nothing abort connection op flow v left = left
answers_by_left Replies.Begun abort connection op flow v left = left

-- so is the one under way
answers_job_left : (job : Job) (v : View) → LeavesNone v → LeavesNone (answers_job job v)
answers_job_left Idle v left = left
answers_job_left (Waiting op) v left = left
answers_job_left (Doing op step) v left = left
answers_job_left (Transferring op transfer) v left = answers_by_left transfer.replied transfer.abort v.connection op transfer.flow v left
answers_job_left (Told answer) v left = left

-- the close of an upload and the ABOR of a Peek leave the operation under way
closes_under : (given : Bool) (connection : ClientLink) (v : View) → is_over v.job ≡ false → is_over (closes_once_given_by given connection v).job ≡ false
closes_under true Data.Free v under = under
closes_under true Data.ListenWanted v under = under
closes_under true (Data.Listening other) v under = under
closes_under true (Data.Connecting endpoint) v under = under
closes_under true (Data.Accepting other) v under = under
closes_under true Data.Open v under = under
closes_under true (Data.Over before) v under = under
closes_under false connection v under = under

-- of the transfer under way
closes_once_under : (job : Job) (v : View) → is_over v.job ≡ false → is_over (closes_once_given job v).job ≡ false
closes_once_under Idle v under = under
closes_once_under (Waiting op) v under = under
closes_once_under (Doing op step) v under = under
closes_once_under (Transferring op transfer) v under = closes_under (has_begun transfer.replied && is_given transfer.flow) v.connection v under
closes_once_under (Told answer) v under = under

-- where it is sent, and where not
aborts_by_under : (b : Bool) (op : Op (List ℕ)) (transfer : Transfer) (v : View) → is_over v.job ≡ false → is_over (if b then sends_abort op transfer v else v).job ≡ false
aborts_by_under true op transfer v under = refl
aborts_by_under false op transfer v under = under

-- of the transfer under way
pub aborts_once_under : (job : Job) (v : View) → is_over v.job ≡ false → is_over (aborts_once_enough job v).job ≡ false
aborts_once_under Idle v under = under
aborts_once_under (Waiting op) v under = under
aborts_once_under (Doing op step) v under = under
aborts_once_under (Transferring op transfer) v under = aborts_by_under (is_to_abort v.connection op transfer) op transfer v under
aborts_once_under (Told answer) v under = under

-- what is carried on was under way
pub carries_on_left : (v : View) → is_over v.job ≡ false → LeavesNone (carries_on v)
carries_on_left v under =
    let closed = closes_once_given v.job v in
    let aborted = aborts_once_enough closed.job closed in
    answers_job_left aborted.job aborted (under_way aborted (aborts_once_under closed.job closed (closes_once_under v.job v under)))

-- a reply to a transfer
reply_left : (replied : Replied) (op : Op (List ℕ)) (transfer : Transfer) (v : View) → LeavesNone (with_reply replied op transfer v)
reply_left replied op transfer v = carries_on_left (record v { job = Transferring op (record transfer { replied = replied }) }) refl

-- before its 1yz
before_left : (verdict : Verdict) (code : ℕ) (op : Op (List ℕ)) (transfer : Transfer) (v : View) → LeavesNone v → LeavesNone (before_opening verdict code op transfer v)
before_left Preliminary code op transfer v left =
    if_left (code == 110) v (with_reply Replies.Begun op transfer (record v { connection = awaited v.connection })) left
    (reply_left Replies.Begun op transfer (record v { connection = awaited v.connection }))
before_left Completion code op transfer v left = strange_left v left
before_left Intermediate code op transfer v left = strange_left v left
before_left Negative code op transfer v left = reply_left (Replies.Final code) op transfer (closes v)
before_left Closing code op transfer v left = strange_left v left
before_left Displaced code op transfer v left = strange_left v left

-- behind it
behind_left : (verdict : Verdict) (code : ℕ) (text : Text) (op : Op (List ℕ)) (transfer : Transfer) (v : View) → LeavesNone v
    → LeavesNone (behind_opening verdict code text op transfer v)
behind_left Preliminary code text op transfer v left =
    if_left (code == 110) (record v { job = Transferring op (record transfer { flow = marked_flow (mark_value text) transfer.flow }) }) v
    (under_way (record v { job = Transferring op (record transfer { flow = marked_flow (mark_value text) transfer.flow }) }) refl) left
behind_left Completion code text op transfer v left = reply_left (Replies.Final code) op transfer v
behind_left Intermediate code text op transfer v left = strange_left v left
behind_left Negative code text op transfer v left = reply_left (Replies.Final code) op transfer (unless_open v.connection v)
behind_left Closing code text op transfer v left = strange_left v left
behind_left Displaced code text op transfer v left = strange_left v left

-- to its ABOR
abort_left : (abort : Abort) (verdict : Verdict) (op : Op (List ℕ)) (transfer : Transfer) (v : View) → LeavesNone v → LeavesNone (abort_answered abort verdict op transfer v)
abort_left Aborts.Sent Preliminary op transfer v left = strange_left v left
abort_left Aborts.Sent Completion op transfer v left = carries_on_left (record v { job = Transferring op (record transfer { abort = Aborts.Answered }) }) refl
abort_left Aborts.Sent Intermediate op transfer v left = strange_left v left
abort_left Aborts.Sent Negative op transfer v left = strange_left v left
abort_left Aborts.Sent Closing op transfer v left = strange_left v left
abort_left Aborts.Sent Displaced op transfer v left = strange_left v left
abort_left Aborts.Unsent verdict op transfer v left = strange_left v left
abort_left Aborts.Answered verdict op transfer v left = strange_left v left

-- by the replies that came before
transfer_left : (replied : Replied) (verdict : Verdict) (code : ℕ) (text : Text) (op : Op (List ℕ)) (transfer : Transfer) (v : View) → LeavesNone v
    → LeavesNone (transfer_answered replied verdict code text op transfer v)
transfer_left Replies.Nothing verdict code text op transfer v left = before_left verdict code op transfer v left
transfer_left Replies.Begun verdict code text op transfer v left = behind_left verdict code text op transfer v left
transfer_left (Replies.Final before) verdict code text op transfer v left = abort_left transfer.abort verdict op transfer v left

-- ---- a reply

-- by what is under way
job_left : (job : Job) (verdict : Verdict) (code : ℕ) (texts : List Text) (v : View) → LeavesNone v → LeavesNone (job_answered job verdict code texts v)
job_left Idle verdict code texts v left = strange_left v left
job_left (Waiting op) verdict code texts v left = strange_left v left
job_left (Doing op step) verdict code texts v left = step_left op step verdict code texts v left
job_left (Transferring op transfer) verdict code texts v left = transfer_left transfer.replied verdict code (joined texts) op transfer v left
job_left (Told answer) verdict code texts v left = strange_left v left

-- by how far the client has come
stand_left : (standing : Standing) (verdict : Verdict) (code : ℕ) (texts : List Text) (v : View) → LeavesNone v → LeavesNone (stand_answered standing verdict code texts v)
stand_left Stands.Greeting verdict code texts v left = greeted_left verdict code v left
stand_left Stands.User verdict code texts v left = user_left verdict v left
stand_left Stands.Pass verdict code texts v left = pass_left verdict v left
stand_left Stands.Entered verdict code texts v left = job_left v.job verdict code texts v left
stand_left (Stands.Failed failure) verdict code texts v left = left

-- by its code
judged_left : (verdict : Verdict) (code : ℕ) (texts : List Text) (v : View) → LeavesNone v → LeavesNone (judged_reply verdict code texts v)
judged_left Preliminary code texts v left = stand_left v.standing Preliminary code texts v left
judged_left Completion code texts v left = stand_left v.standing Completion code texts v left
judged_left Intermediate code texts v left = stand_left v.standing Intermediate code texts v left
judged_left Negative code texts v left = stand_left v.standing Negative code texts v left
judged_left Closing code texts v left = fails_left v.standing Failures.Lost v left
judged_left Displaced code texts v left = strange_left v left

-- a line
line_left : (heard : Heard) (v : View) → LeavesNone v → LeavesNone (line_taken heard v)
unfolding answered
line_left (GoesOn gathered) v left = left
line_left (Says code texts) v left = judged_left (verdict_of code) code texts (record v { gathered = Between }) left
line_left (Faulty fault) v left = strange_left v left

-- what the ear tells
event_left : (event : NvtEvent) (v : View) → LeavesNone v → LeavesNone (event_taken event v)
event_left (line text) v left = line_left (line_heard v.gathered text) v left
event_left too_long v left = strange_left v left
event_left (owed answer) v left = left

-- several such events
events_left : (events : List NvtEvent) (v : View) → LeavesNone v → LeavesNone (events_taken events v)
events_left [] v left = left
events_left (event ∷ events) v left = events_left events (event_taken event v) (event_left event v left)

-- octets of the control connection
pub hears_left : (v : View) (octets : List ℕ) → LeavesNone v → LeavesNone (hears v octets)
hears_left v [] left = left
hears_left v (octet ∷ octets) left =
    hears_left (hears_octet v octet) octets
    (events_left ((ear reply_limit).out v.ear octet) (record v { ear = (ear reply_limit).step v.ear octet }) left)
