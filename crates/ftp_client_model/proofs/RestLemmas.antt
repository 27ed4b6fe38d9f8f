-- What a reply does leaves the client between two replies: nothing that is heard is touched by it.
use Rattle.std.proofs.Common.{ℕ, Bool, true, false, ◌&&◌, ◌==◌, List, Option, Some, None, refl}
use Rattle.std.specs.Prelude.{if◌then◌else◌}
use Rattle.ftp_command.specs.declared.command.Command.{Command}
use Rattle.ftp_operation.specs.Answer.{Said, Refused, Foreign}
use Rattle.ftp_operation.specs.declared.op.Op.{Op}
use Rattle.ftp_endpoint.specs.declared.endpoint.Endpoint.{Endpoint}
use Rattle.ftp_reply.specs.Lines.{Text, joined}
use Rattle.ftp_ends.specs.Link.{same_host}
use Rattle.ftp_client_model.specs.Dialogue.{is_to_abort, sends_abort, aborts_once_enough, abort_answered, next_job, finishes_by, finishes, finishes_read, sends_if, last_job, answer_in, awaited, marked_flow, placed, goes_on, greeted, enters_with, login_ends, user_answered, pass_answered, set_accepted, dials, endpoint_named, port_named, passive_named, step_done, intermediate, awaits_reply, step_answered, judged, answers_by, answers_job, closes_once_given_by, closes_once_given, carries_on, with_reply, transfer_opened, noted, unless_open, before_opening, behind_opening, transfer_answered, job_answered, stand_answered, judged_reply, answered, closes, has_begun, is_given}
use Rattle.ftp_client_model.specs.InFlight.{IsAtRest, AnsweredAtRest}
use Rattle.ftp_client_model.specs.Octets.{flow_of}
use Rattle.ftp_client_model.specs.Plan.{asked_settings, first_step, next_step, settings_behind, command_of, is_extended}
use Rattle.ftp_client_model.specs.Replies.{Verdict, Preliminary, Completion, Intermediate, Negative, Closing, Displaced, verdict_of}
use Rattle.std.specs.Option.{option_map}
use Rattle.ftp_client_model.specs.Tries.{run_at}
use Rattle.ftp_reply.specs.Values.{passive_value, extended_value, mark_value}
use Rattle.ftp_client_model.specs.View.{View, Job, Idle, Waiting, Doing, Transferring, Told, Transfer, Flow, dropped, fails_by, strange}
use Rattle.ftp_client_model.specs.declared.client.Abort.{Abort}
use Rattle.ftp_client_model.specs.declared.client.Abort.TheVariants as Aborts
use Rattle.ftp_client_model.specs.declared.client.Failure.{Failure}
use Rattle.ftp_client_model.specs.declared.client.Failure.TheVariants as Failures
use Rattle.ftp_client_model.specs.declared.client.ClientLink.{ClientLink}
use Rattle.ftp_client_model.specs.declared.client.ClientLink.TheVariants as Data
use Rattle.ftp_client_model.specs.declared.client.Replied.{Replied}
use Rattle.ftp_client_model.specs.declared.client.Replied.TheVariants as Replies
use Rattle.ftp_client_model.specs.declared.client.Standing.{Standing}
use Rattle.ftp_client_model.specs.declared.client.Standing.TheVariants as Stands
use Rattle.ftp_client_model.specs.declared.client.Step.{Step}
use Rattle.ftp_client_model.specs.declared.client.Step.TheVariants as Steps

-- it leaves the client at rest
abbrev Rests : View → (View → View) → Type 0
Rests v f = IsAtRest v → IsAtRest (f v)

if_rest : (b : Bool) (v w : View) → IsAtRest v → IsAtRest w → IsAtRest (if b then v else w)
if_rest true v w one other = one
if_rest false v w one other = other

fails_rest : (standing : Standing) (failure : Failure) (v : View) → Rests v (fails_by standing failure)
fails_rest Stands.Greeting failure v r = record { ear = refl; gathered = refl }
fails_rest Stands.User failure v r = record { ear = refl; gathered = refl }
fails_rest Stands.Pass failure v r = record { ear = refl; gathered = refl }
fails_rest Stands.Entered failure v r = record { ear = refl; gathered = refl }
fails_rest (Stands.Failed before) failure v r = r

strange_rest : (v : View) → Rests v strange
strange_rest v r = fails_rest v.standing Failures.Strange v r

sends_if_rest : (command : Option (Command (List ℕ))) (v : View) → Rests v (sends_if command)
sends_if_rest None v r = r
sends_if_rest (Some command) v r = record { ear = r.ear; gathered = r.gathered }

-- a step's command is sent
sent_rest : (op : Op (List ℕ)) (step : Step) (job : Job) (v : View) → IsAtRest v → IsAtRest (sends_if (command_of v op step) (record v { job = job }))
sent_rest op step job v r = sends_if_rest (command_of v op step) (record v { job = job }) (record { ear = r.ear; gathered = r.gathered })

placed_rest : (op : Op (List ℕ)) (step : Step) (v : View) → Rests v (placed op step)
placed_rest op Steps.Kind v r = sent_rest op Steps.Kind (Doing op Steps.Kind) v r
placed_rest op Steps.Structure v r = sent_rest op Steps.Structure (Doing op Steps.Structure) v r
placed_rest op Steps.Mode v r = sent_rest op Steps.Mode (Doing op Steps.Mode) v r
placed_rest op Steps.Listen v r = record { ear = r.ear; gathered = r.gathered }
placed_rest op Steps.Port v r = sent_rest op Steps.Port (Doing op Steps.Port) v r
placed_rest op Steps.Passive v r = sent_rest op Steps.Passive (Doing op Steps.Passive) v r
placed_rest op Steps.Connect v r = sent_rest op Steps.Connect (Doing op Steps.Connect) v r
placed_rest op Steps.Restart v r = sent_rest op Steps.Restart (Doing op Steps.Restart) v r
placed_rest op Steps.Source v r = sent_rest op Steps.Source (Doing op Steps.Source) v r
placed_rest op Steps.Last v r = sent_rest op Steps.Last (last_job op (flow_of op)) v r

goes_on_rest : (op : Op (List ℕ)) (step : Step) (v : View) → Rests v (goes_on op step)
goes_on_rest op step v r = placed_rest op (next_step v.settings op step) v r

-- ---- the end of an operation

finishes_by_rest : (next : Option (Op (List ℕ))) (answer : Said) (v : View) → Rests v (finishes_by next answer)
finishes_by_rest None answer v r = record { ear = r.ear; gathered = r.gathered }
finishes_by_rest (Some op) answer v r =
    let w : View = record (dropped v) { run = option_map (run_at op) v.run } in
    placed_rest op (first_step w.settings op) w (record { ear = r.ear; gathered = r.gathered })

finishes_rest : (answer : Said) (v : View) → Rests v (finishes answer)
finishes_rest answer v r = finishes_by_rest (next_job v.run v.job answer) answer v r

finishes_read_rest : (answer : Option Said) (v : View) → Rests v (finishes_read answer)
finishes_read_rest None v r = strange_rest v r
finishes_read_rest (Some answer) v r = finishes_rest answer v r

-- ---- the login

greeted_rest : (verdict : Verdict) (code : ℕ) (v : View) → Rests v (greeted verdict code)
greeted_rest Completion code v r = record { ear = r.ear; gathered = r.gathered }
greeted_rest Preliminary code v r = if_rest (code == 120) v (strange v) r (strange_rest v r)
greeted_rest Intermediate code v r = strange_rest v r
greeted_rest Negative code v r = strange_rest v r
greeted_rest Closing code v r = strange_rest v r
greeted_rest Displaced code v r = strange_rest v r

enters_with_rest : (job : Job) (v : View) → Rests v (enters_with job)
enters_with_rest (Waiting op) v r = placed_rest op (first_step v.settings op) v r
enters_with_rest Idle v r = r
enters_with_rest (Doing op step) v r = r
enters_with_rest (Transferring op transfer) v r = r
enters_with_rest (Told answer) v r = r

enters_rest : (v : View) → Rests v login_ends
enters_rest v r = enters_with_rest v.job (record v { standing = Stands.Entered }) (record { ear = r.ear; gathered = r.gathered })

user_rest : (verdict : Verdict) (v : View) → Rests v (user_answered verdict)
user_rest Intermediate v r = record { ear = r.ear; gathered = r.gathered }
user_rest Completion v r = enters_rest v r
user_rest Negative v r = enters_rest v r
user_rest Preliminary v r = strange_rest v r
user_rest Closing v r = strange_rest v r
user_rest Displaced v r = strange_rest v r

pass_rest : (verdict : Verdict) (v : View) → Rests v (pass_answered verdict)
pass_rest Completion v r = enters_rest v r
pass_rest Negative v r = enters_rest v r
pass_rest Intermediate v r = strange_rest v r
pass_rest Preliminary v r = strange_rest v r
pass_rest Closing v r = strange_rest v r
pass_rest Displaced v r = strange_rest v r

-- ---- a step

set_rest : (op : Op (List ℕ)) (step : Step) (v : View) → Rests v (set_accepted op step)
set_rest op step v r = goes_on_rest op step (record v { settings = settings_behind step v.settings (asked_settings op) }) (record { ear = r.ear; gathered = r.gathered })

dials_rest : (op : Op (List ℕ)) (endpoint : Endpoint) (v : View) → Rests v (dials op endpoint)
dials_rest op endpoint v r = goes_on_rest op Steps.Passive (record v { connection = Data.Connecting endpoint }) (record { ear = r.ear; gathered = r.gathered })

named_rest : (endpoint : Option Endpoint) (op : Op (List ℕ)) (v : View) → Rests v (endpoint_named endpoint op)
named_rest None op v r = strange_rest v r
named_rest (Some endpoint) op v r =
    if_rest (same_host endpoint.host v.peer) (dials op endpoint v) (finishes Foreign v) (dials_rest op endpoint v r) (finishes_rest Foreign v r)

port_named_rest : (port : Option ℕ) (op : Op (List ℕ)) (v : View) → Rests v (port_named port op)
port_named_rest None op v r = strange_rest v r
port_named_rest (Some port) op v r = dials_rest op (record { host = v.peer; port = port }) v r

passive_rest : (extended : Bool) (op : Op (List ℕ)) (text : Text) (v : View) → Rests v (passive_named extended op text)
passive_rest true op text v r = port_named_rest (extended_value text) op v r
passive_rest false op text v r = named_rest (passive_value text) op v r

completed_rest : (op : Op (List ℕ)) (step : Step) (texts : List Text) (v : View) → Rests v (step_done op step texts)
completed_rest op Steps.Port texts v r = goes_on_rest op Steps.Port v r
completed_rest op Steps.Passive texts v r = passive_rest (is_extended v op) op (joined texts) v r
completed_rest op Steps.Last texts v r = finishes_read_rest (answer_in op texts) v r
completed_rest op Steps.Listen texts v r = strange_rest v r
completed_rest op Steps.Connect texts v r = strange_rest v r
completed_rest op Steps.Restart texts v r = strange_rest v r
completed_rest op Steps.Source texts v r = strange_rest v r
completed_rest op Steps.Kind texts v r = set_rest op Steps.Kind v r
completed_rest op Steps.Structure texts v r = set_rest op Steps.Structure v r
completed_rest op Steps.Mode texts v r = set_rest op Steps.Mode v r

intermediate_rest : (op : Op (List ℕ)) (step : Step) (v : View) → Rests v (intermediate op step)
intermediate_rest op Steps.Restart v r = goes_on_rest op Steps.Restart v r
intermediate_rest op Steps.Source v r = goes_on_rest op Steps.Source v r
intermediate_rest op Steps.Kind v r = strange_rest v r
intermediate_rest op Steps.Structure v r = strange_rest v r
intermediate_rest op Steps.Mode v r = strange_rest v r
intermediate_rest op Steps.Listen v r = strange_rest v r
intermediate_rest op Steps.Port v r = strange_rest v r
intermediate_rest op Steps.Passive v r = strange_rest v r
intermediate_rest op Steps.Connect v r = strange_rest v r
intermediate_rest op Steps.Last v r = strange_rest v r

step_rest : (op : Op (List ℕ)) (step : Step) (verdict : Verdict) (code : ℕ) (texts : List Text) (v : View) → Rests v (step_answered op step verdict code texts)
step_rest op step Completion code texts v r = completed_rest op step texts v r
step_rest op step Intermediate code texts v r = intermediate_rest op step v r
step_rest op step Negative code texts v r = if_rest (awaits_reply step) (finishes (Refused code) v) (strange v) (finishes_rest (Refused code) v r) (strange_rest v r)
step_rest op step Preliminary code texts v r = strange_rest v r
step_rest op step Closing code texts v r = strange_rest v r
step_rest op step Displaced code texts v r = strange_rest v r

-- ---- a transfer

answers_by_rest : (replied : Replied) (abort : Abort) (connection : ClientLink) (op : Op (List ℕ)) (flow : Flow) (v : View) → Rests v (answers_by replied abort connection op flow)
answers_by_rest (Replies.Final code) Aborts.Unsent (Data.Over ending) op flow v r = finishes_read_rest (judged ending Aborts.Unsent code op flow) v r
answers_by_rest (Replies.Final code) Aborts.Unsent Data.Free op flow v r = r
answers_by_rest (Replies.Final code) Aborts.Unsent Data.ListenWanted op flow v r = r
answers_by_rest (Replies.Final code) Aborts.Unsent (Data.Listening port) op flow v r = r
answers_by_rest (Replies.Final code) Aborts.Unsent (Data.Connecting endpoint) op flow v r = r
answers_by_rest (Replies.Final code) Aborts.Unsent (Data.Accepting port) op flow v r = r
answers_by_rest (Replies.Final code) Aborts.Unsent Data.Open op flow v r = r
answers_by_rest (Replies.Final code) Aborts.Answered (Data.Over ending) op flow v r = finishes_read_rest (judged ending Aborts.Answered code op flow) v r
answers_by_rest (Replies.Final code) Aborts.Answered Data.Free op flow v r = r
answers_by_rest (Replies.Final code) Aborts.Answered Data.ListenWanted op flow v r = r
answers_by_rest (Replies.Final code) Aborts.Answered (Data.Listening port) op flow v r = r
answers_by_rest (Replies.Final code) Aborts.Answered (Data.Connecting endpoint) op flow v r = r
answers_by_rest (Replies.Final code) Aborts.Answered (Data.Accepting port) op flow v r = r
answers_by_rest (Replies.Final code) Aborts.Answered Data.Open op flow v r = r
answers_by_rest (Replies.Final code) Aborts.Sent connection op flow v r = r
answers_by_rest Replies.Nothing abort connection op flow v r = r
answers_by_rest Replies.Begun abort connection op flow v r = r

answers_job_rest : (job : Job) (v : View) → Rests v (answers_job job)
answers_job_rest (Transferring op transfer) v r = answers_by_rest transfer.replied transfer.abort v.connection op transfer.flow v r
answers_job_rest Idle v r = r
answers_job_rest (Waiting op) v r = r
answers_job_rest (Doing op step) v r = r
answers_job_rest (Told answer) v r = r

closes_rest : (v : View) → Rests v closes
closes_rest v r = record { ear = r.ear; gathered = r.gathered }

closes_by_rest : (given : Bool) (connection : ClientLink) (v : View) → Rests v (closes_once_given_by given connection)
closes_by_rest true Data.Open v r = closes_rest v r
closes_by_rest true Data.Free v r = r
closes_by_rest true Data.ListenWanted v r = r
closes_by_rest true (Data.Listening port) v r = r
closes_by_rest true (Data.Connecting endpoint) v r = r
closes_by_rest true (Data.Accepting port) v r = r
closes_by_rest true (Data.Over ending) v r = r
closes_by_rest false connection v r = r

closes_once_rest : (job : Job) (v : View) → Rests v (closes_once_given job)
closes_once_rest (Transferring op transfer) v r = closes_by_rest (has_begun transfer.replied && is_given transfer.flow) v.connection v r
closes_once_rest Idle v r = r
closes_once_rest (Waiting op) v r = r
closes_once_rest (Doing op step) v r = r
closes_once_rest (Told answer) v r = r

sends_abort_rest : (op : Op (List ℕ)) (transfer : Transfer) (v : View) → Rests v (sends_abort op transfer)
sends_abort_rest op transfer v r = record { ear = r.ear; gathered = r.gathered }

aborts_once_rest : (job : Job) (v : View) → Rests v (aborts_once_enough job)
aborts_once_rest (Transferring op transfer) v r = if_rest (is_to_abort v.connection op transfer) (sends_abort op transfer v) v (sends_abort_rest op transfer v r) r
aborts_once_rest Idle v r = r
aborts_once_rest (Waiting op) v r = r
aborts_once_rest (Doing op step) v r = r
aborts_once_rest (Told answer) v r = r

carries_on_rest : (v : View) → Rests v carries_on
carries_on_rest v r =
    let closed = closes_once_given v.job v in
    let aborted = aborts_once_enough closed.job closed in
    answers_job_rest aborted.job aborted (aborts_once_rest closed.job closed (closes_once_rest v.job v r))

with_reply_rest : (replied : Replied) (op : Op (List ℕ)) (transfer : Transfer) (v : View) → Rests v (with_reply replied op transfer)
with_reply_rest replied op transfer v r = carries_on_rest (record v { job = Transferring op (record transfer { replied = replied }) }) (record { ear = r.ear; gathered = r.gathered })

opened_rest : (code : ℕ) (op : Op (List ℕ)) (transfer : Transfer) (v : View) → Rests v (transfer_opened code op transfer)
opened_rest code op transfer v r =
    let w : View = record v { connection = awaited v.connection } in
    if_rest (code == 110) v (with_reply Replies.Begun op transfer w) r (with_reply_rest Replies.Begun op transfer w (record { ear = r.ear; gathered = r.gathered }))

noted_rest : (code : ℕ) (text : Text) (op : Op (List ℕ)) (transfer : Transfer) (v : View) → Rests v (noted code text op transfer)
noted_rest code text op transfer v r =
    let w : View = record v { job = Transferring op (record transfer { flow = marked_flow (mark_value text) transfer.flow }) } in
    if_rest (code == 110) w v (record { ear = r.ear; gathered = r.gathered }) r

unless_open_rest : (connection : ClientLink) (v : View) → Rests v (unless_open connection)
unless_open_rest Data.Open v r = r
unless_open_rest (Data.Over ending) v r = r
unless_open_rest Data.Free v r = closes_rest v r
unless_open_rest Data.ListenWanted v r = closes_rest v r
unless_open_rest (Data.Listening port) v r = closes_rest v r
unless_open_rest (Data.Connecting endpoint) v r = closes_rest v r
unless_open_rest (Data.Accepting port) v r = closes_rest v r

before_rest : (verdict : Verdict) (code : ℕ) (op : Op (List ℕ)) (transfer : Transfer) (v : View) → Rests v (before_opening verdict code op transfer)
before_rest Preliminary code op transfer v r = opened_rest code op transfer v r
before_rest Negative code op transfer v r = with_reply_rest (Replies.Final code) op transfer (closes v) (closes_rest v r)
before_rest Completion code op transfer v r = strange_rest v r
before_rest Intermediate code op transfer v r = strange_rest v r
before_rest Closing code op transfer v r = strange_rest v r
before_rest Displaced code op transfer v r = strange_rest v r

behind_rest : (verdict : Verdict) (code : ℕ) (text : Text) (op : Op (List ℕ)) (transfer : Transfer) (v : View) → Rests v (behind_opening verdict code text op transfer)
behind_rest Preliminary code text op transfer v r = noted_rest code text op transfer v r
behind_rest Completion code text op transfer v r = with_reply_rest (Replies.Final code) op transfer v r
behind_rest Negative code text op transfer v r =
    with_reply_rest (Replies.Final code) op transfer (unless_open v.connection v) (unless_open_rest v.connection v r)
behind_rest Intermediate code text op transfer v r = strange_rest v r
behind_rest Closing code text op transfer v r = strange_rest v r
behind_rest Displaced code text op transfer v r = strange_rest v r

abort_answered_rest : (abort : Abort) (verdict : Verdict) (op : Op (List ℕ)) (transfer : Transfer) (v : View) → Rests v (abort_answered abort verdict op transfer)
abort_answered_rest Aborts.Sent Completion op transfer v r =
    carries_on_rest (record v { job = Transferring op (record transfer { abort = Aborts.Answered }) }) (record { ear = r.ear; gathered = r.gathered })
abort_answered_rest Aborts.Sent Preliminary op transfer v r = strange_rest v r
abort_answered_rest Aborts.Sent Intermediate op transfer v r = strange_rest v r
abort_answered_rest Aborts.Sent Negative op transfer v r = strange_rest v r
abort_answered_rest Aborts.Sent Closing op transfer v r = strange_rest v r
abort_answered_rest Aborts.Sent Displaced op transfer v r = strange_rest v r
abort_answered_rest Aborts.Unsent verdict op transfer v r = strange_rest v r
abort_answered_rest Aborts.Answered verdict op transfer v r = strange_rest v r

transfer_rest : (replied : Replied) (verdict : Verdict) (code : ℕ) (text : Text) (op : Op (List ℕ)) (transfer : Transfer) (v : View)
    → Rests v (transfer_answered replied verdict code text op transfer)
transfer_rest Replies.Nothing verdict code text op transfer v r = before_rest verdict code op transfer v r
transfer_rest Replies.Begun verdict code text op transfer v r = behind_rest verdict code text op transfer v r
transfer_rest (Replies.Final before) verdict code text op transfer v r = abort_answered_rest transfer.abort verdict op transfer v r

-- ---- a reply

job_rest : (job : Job) (verdict : Verdict) (code : ℕ) (texts : List Text) (v : View) → Rests v (job_answered job verdict code texts)
job_rest (Doing op step) verdict code texts v r = step_rest op step verdict code texts v r
job_rest (Transferring op transfer) verdict code texts v r = transfer_rest transfer.replied verdict code (joined texts) op transfer v r
job_rest Idle verdict code texts v r = strange_rest v r
job_rest (Waiting op) verdict code texts v r = strange_rest v r
job_rest (Told answer) verdict code texts v r = strange_rest v r

stand_rest : (standing : Standing) (verdict : Verdict) (code : ℕ) (texts : List Text) (v : View) → Rests v (stand_answered standing verdict code texts)
stand_rest Stands.Greeting verdict code texts v r = greeted_rest verdict code v r
stand_rest Stands.User verdict code texts v r = user_rest verdict v r
stand_rest Stands.Pass verdict code texts v r = pass_rest verdict v r
stand_rest Stands.Entered verdict code texts v r = job_rest v.job verdict code texts v r
stand_rest (Stands.Failed failure) verdict code texts v r = r

judged_rest : (verdict : Verdict) (code : ℕ) (texts : List Text) (v : View) → Rests v (judged_reply verdict code texts)
judged_rest Closing code texts v r = fails_rest v.standing Failures.Lost v r
judged_rest Displaced code texts v r = strange_rest v r
judged_rest Preliminary code texts v r = stand_rest v.standing Preliminary code texts v r
judged_rest Completion code texts v r = stand_rest v.standing Completion code texts v r
judged_rest Intermediate code texts v r = stand_rest v.standing Intermediate code texts v r
judged_rest Negative code texts v r = stand_rest v.standing Negative code texts v r

pub answered_at_rest : AnsweredAtRest
unfolding answered
answered_at_rest code texts v r = judged_rest (verdict_of code) code texts v r
