-- What a reply, an event of the data connection or an octet leaves a client to do.
use Rattle.std.proofs.Common.{◌≡◌, ℕ, ◌+◌, ◌<◌, ◌≤◌, ◌⊎◌, inl, inr, List, [], ◌∷◌, ◌++◌, Bool, true, false, ◌&&◌, ◌==◌, Option, Some, None, refl, sym, ap, subst, append-nil, arith, length, length-append}
use Rattle.std.specs.Prelude.{if◌then◌else◌}
use Rattle.std.specs.List.{flat_map}
use Rattle.std.proofs.lemmas.List.{length-drop}
use Rattle.ftp_nvt.specs.Lines.{NvtEvent, line, too_long, owed}
use Rattle.ftp_nvt.specs.Telnet.{TelnetUnit, data_octet, option, subnegotiation, command}
use Rattle.ftp_nvt.specs.declared.line.Stage.{Stage}
use Rattle.ftp_nvt.specs.declared.line.Stage.TheVariants as Lined
use Rattle.ftp_nvt.proofs.CutLemmas.{decided}
use Rattle.ftp_operation.specs.Answer.{Refused, Foreign, Unopened}
use Rattle.ftp_operation.specs.declared.op.Op.{Op}
use Rattle.ftp_endpoint.specs.declared.endpoint.Endpoint.{Endpoint}
use Rattle.ftp_endpoint.specs.declared.host.Host.{Host}
use Rattle.ftp_reply.specs.Lines.{Text, joined}
use Rattle.ftp_ends.specs.Ear.{Ear, Unfinished, ended_text, within_out, line_out, unit_says, ear_out, ear_step}
use Rattle.ftp_ends.specs.Link.{same_host}
use Rattle.ftp_client_model.specs.Bounds.{login_left, opening_left, abort_left, transfer_left, run_left, job_left, to_begin, octets_left, upload_left, closes_left, still_to_give, AddsAtMost, HearingAddsAnAnswer, ReceivingAddsNone, EventsAdd, EventsAddNone}
use Rattle.ftp_client_model.specs.Calls.{heard_flow, with_flow, reply_limit, line_taken, event_taken, events_taken, unless_closing, listening_by, listening, no_port_by, listen_refused, connected, accepted, opened_by, data_opened, unopened_by, data_refused, ending_of, over_by, data_end, data_fault, heard_by, went, goes_by, gives_data, control_end}
use Rattle.ftp_client_model.specs.Dialogue.{is_unsent, is_to_abort, sends_abort, aborts_once_enough, abort_answered, begins, finishes, greeted, enters_with, login_ends, user_answered, pass_answered, set_accepted, dials, endpoint_named, port_named, passive_named, step_done, intermediate, awaits_reply, step_answered, answer_in, judged, answers_by, answers_job, closes_once_given_by, closes_once_given, carries_on, with_reply, awaited, transfer_opened, marked_flow, noted, unless_open, before_opening, behind_opening, transfer_answered, job_answered, stand_answered, judged_reply, answered, closes, has_begun, is_given}
use Rattle.ftp_client_model.specs.Octets.{has_settled, flow_octet}
use Rattle.ftp_client_model.specs.Plan.{count_of, asked_settings, settings_behind as set_by, is_extended}
use Rattle.ftp_client_model.specs.Replies.{Verdict, Preliminary, Completion, Intermediate, Negative, Closing, Displaced, verdict_of}
use Rattle.ftp_reply.specs.Reader.{Heard, GoesOn, Says, Faulty, line_heard, Between}
use Rattle.ftp_reply.specs.Values.{passive_value, extended_value, mark_value}
use Rattle.ftp_client_model.specs.View.{View, Job, Idle, Waiting, Doing, Transferring, Told, Transfer, Flow, Sending, Receiving, stands, strange}
use Rattle.ftp_client_model.specs.declared.client.Abort.{Abort}
use Rattle.ftp_client_model.specs.declared.client.Abort.TheVariants as Aborts
use Rattle.ftp_client_model.specs.declared.client.Ending.{Ending}
use Rattle.ftp_client_model.specs.declared.client.Ending.TheVariants as Endings
use Rattle.ftp_client_model.specs.declared.client.Failure.TheVariants as Failures
use Rattle.ftp_client_model.specs.declared.client.ClientLink.{ClientLink}
use Rattle.ftp_client_model.specs.declared.client.ClientLink.TheVariants as Data
use Rattle.ftp_client_model.specs.declared.client.Replied.{Replied}
use Rattle.ftp_client_model.specs.declared.client.Replied.TheVariants as Replies
use Rattle.ftp_client_model.specs.declared.client.Standing.{Standing}
use Rattle.ftp_client_model.specs.declared.client.Standing.TheVariants as Stands
use Rattle.ftp_client_model.specs.declared.client.Step.{Step}
use Rattle.ftp_client_model.specs.declared.client.Step.TheVariants as Steps
use Rattle.ftp_nvt.proofs.FoldLemmas.{ends}
use Rattle.ftp_ends.proofs.Counts.{one_if, one_close}
use Rattle.ftp_client_model.proofs.ClientBounds.{Low, same, falls, both, if_low, finishes_low, fails_low, strange_low, finishes_read_low, goes_step, goes_on_low, begins_low}

-- ---- the login

greeted_low : (verdict : Verdict) (code : ℕ) (v : View) → v.standing ≡ Stands.Greeting → Low v (greeted verdict code v)
greeted_low Completion code v is = let two : login_left v.standing ≡ 2 = ap login_left is in falls 0 v (greeted Completion code v) (omega (arith, two))
greeted_low Preliminary code v is = if_low (code == 120) v v (strange v) (same v) (strange_low v)
greeted_low Intermediate code v is = strange_low v
greeted_low Negative code v is = strange_low v
greeted_low Closing code v is = strange_low v
greeted_low Displaced code v is = strange_low v

enters_with_low : (job : Job) (v : View) → v.job ≡ job → Low v (enters_with job (record v { standing = Stands.Entered }))
enters_with_low (Waiting op) v is = begins_low op v (record v { standing = Stands.Entered }) is (omega arith) refl
enters_with_low Idle v is = record { begins = omega arith; gives = inr (omega arith) }
enters_with_low (Doing op step) v is = record { begins = omega arith; gives = inr (omega arith) }
enters_with_low (Transferring op transfer) v is = record { begins = omega arith; gives = inr (omega arith) }
enters_with_low (Told answer) v is = record { begins = omega arith; gives = inr (omega arith) }

enters_low : (v : View) → Low v (login_ends v)
enters_low v = enters_with_low v.job v refl

user_low : (verdict : Verdict) (v : View) → v.standing ≡ Stands.User → Low v (user_answered verdict v)
user_low Intermediate v is = let one : login_left v.standing ≡ 1 = ap login_left is in falls 0 v (user_answered Intermediate v) (omega (arith, one))
user_low Completion v is = enters_low v
user_low Negative v is = enters_low v
user_low Preliminary v is = strange_low v
user_low Closing v is = strange_low v
user_low Displaced v is = strange_low v

pass_low : (verdict : Verdict) (v : View) → Low v (pass_answered verdict v)
pass_low Completion v = enters_low v
pass_low Negative v = enters_low v
pass_low Intermediate v = strange_low v
pass_low Preliminary v = strange_low v
pass_low Closing v = strange_low v
pass_low Displaced v = strange_low v

-- ---- a step

dials_low : (op : Op (List ℕ)) (endpoint : Endpoint) (v : View) → v.job ≡ Doing op Steps.Passive → Low v (dials op endpoint v)
dials_low op endpoint v is = goes_on_low op Steps.Passive v (record v { connection = Data.Connecting endpoint }) refl is refl refl

named_low : (endpoint : Option Endpoint) (op : Op (List ℕ)) (v : View) → v.job ≡ Doing op Steps.Passive → Low v (endpoint_named endpoint op v)
named_low None op v is = strange_low v
named_low (Some endpoint) op v is =
    if_low (same_host endpoint.host v.peer) v (dials op endpoint v) (finishes Foreign v) (dials_low op endpoint v is) (finishes_low Foreign v)

port_named_low : (port : Option ℕ) (op : Op (List ℕ)) (v : View) → v.job ≡ Doing op Steps.Passive → Low v (port_named port op v)
port_named_low None op v is = strange_low v
port_named_low (Some port) op v is = dials_low op (record { host = v.peer; port = port }) v is

passive_low : (extended : Bool) (op : Op (List ℕ)) (text : Text) (v : View) → v.job ≡ Doing op Steps.Passive → Low v (passive_named extended op text v)
passive_low true op text v is = port_named_low (extended_value text) op v is
passive_low false op text v is = named_low (passive_value text) op v is

set_low : (op : Op (List ℕ)) (step : Step) (v : View) → goes_step step ≡ true → v.job ≡ Doing op step → Low v (set_accepted op step v)
set_low op step v goes is = goes_on_low op step v (record v { settings = set_by step v.settings (asked_settings op) }) goes is refl refl

completed_low : (op : Op (List ℕ)) (step : Step) (texts : List Text) (v : View) → v.job ≡ Doing op step → Low v (step_done op step texts v)
completed_low op Steps.Port texts v is = goes_on_low op Steps.Port v v refl is refl refl
completed_low op Steps.Passive texts v is = passive_low (is_extended v op) op (joined texts) v is
completed_low op Steps.Last texts v is = finishes_read_low (answer_in op texts) v
completed_low op Steps.Listen texts v is = strange_low v
completed_low op Steps.Connect texts v is = strange_low v
completed_low op Steps.Restart texts v is = strange_low v
completed_low op Steps.Source texts v is = strange_low v
completed_low op Steps.Kind texts v is = set_low op Steps.Kind v refl is
completed_low op Steps.Structure texts v is = set_low op Steps.Structure v refl is
completed_low op Steps.Mode texts v is = set_low op Steps.Mode v refl is

intermediate_low : (op : Op (List ℕ)) (step : Step) (v : View) → v.job ≡ Doing op step → Low v (intermediate op step v)
intermediate_low op Steps.Restart v is = goes_on_low op Steps.Restart v v refl is refl refl
intermediate_low op Steps.Source v is = goes_on_low op Steps.Source v v refl is refl refl
intermediate_low op Steps.Kind v is = strange_low v
intermediate_low op Steps.Structure v is = strange_low v
intermediate_low op Steps.Mode v is = strange_low v
intermediate_low op Steps.Listen v is = strange_low v
intermediate_low op Steps.Port v is = strange_low v
intermediate_low op Steps.Passive v is = strange_low v
intermediate_low op Steps.Connect v is = strange_low v
intermediate_low op Steps.Last v is = strange_low v

step_low : (op : Op (List ℕ)) (step : Step) (verdict : Verdict) (code : ℕ) (texts : List Text) (v : View) → v.job ≡ Doing op step
    → Low v (step_answered op step verdict code texts v)
step_low op step Completion code texts v is = completed_low op step texts v is
step_low op step Intermediate code texts v is = intermediate_low op step v is
step_low op step Negative code texts v is = if_low (awaits_reply step) v (finishes (Refused code) v) (strange v) (finishes_low (Refused code) v) (strange_low v)
step_low op step Preliminary code texts v is = strange_low v
step_low op step Closing code texts v is = strange_low v
step_low op step Displaced code texts v is = strange_low v

-- ---- a transfer

answers_by_low : (replied : Replied) (abort : Abort) (connection : ClientLink) (op : Op (List ℕ)) (flow : Flow) (v : View) → Low v (answers_by replied abort connection op flow v)
answers_by_low (Replies.Final code) Aborts.Unsent (Data.Over ending) op flow v = finishes_read_low (judged ending Aborts.Unsent code op flow) v
answers_by_low (Replies.Final code) Aborts.Unsent Data.Free op flow v = same v
answers_by_low (Replies.Final code) Aborts.Unsent Data.ListenWanted op flow v = same v
answers_by_low (Replies.Final code) Aborts.Unsent (Data.Listening port) op flow v = same v
answers_by_low (Replies.Final code) Aborts.Unsent (Data.Connecting endpoint) op flow v = same v
answers_by_low (Replies.Final code) Aborts.Unsent (Data.Accepting port) op flow v = same v
answers_by_low (Replies.Final code) Aborts.Unsent Data.Open op flow v = same v
answers_by_low (Replies.Final code) Aborts.Answered (Data.Over ending) op flow v = finishes_read_low (judged ending Aborts.Answered code op flow) v
answers_by_low (Replies.Final code) Aborts.Answered Data.Free op flow v = same v
answers_by_low (Replies.Final code) Aborts.Answered Data.ListenWanted op flow v = same v
answers_by_low (Replies.Final code) Aborts.Answered (Data.Listening port) op flow v = same v
answers_by_low (Replies.Final code) Aborts.Answered (Data.Connecting endpoint) op flow v = same v
answers_by_low (Replies.Final code) Aborts.Answered (Data.Accepting port) op flow v = same v
answers_by_low (Replies.Final code) Aborts.Answered Data.Open op flow v = same v
answers_by_low (Replies.Final code) Aborts.Sent connection op flow v = same v
answers_by_low Replies.Nothing abort connection op flow v = same v
answers_by_low Replies.Begun abort connection op flow v = same v

answers_job_low : (job : Job) (v : View) → Low v (answers_job job v)
answers_job_low (Transferring op transfer) v = answers_by_low transfer.replied transfer.abort v.connection op transfer.flow v
answers_job_low Idle v = same v
answers_job_low (Waiting op) v = same v
answers_job_low (Doing op step) v = same v
answers_job_low (Told answer) v = same v

closes_low : (v : View) → Low v (closes v)
closes_low v = record { begins = omega arith; gives = inr (omega (arith, one_close v.closing (stands v.connection))) }

closes_by_low : (given : Bool) (connection : ClientLink) (v : View) → Low v (closes_once_given_by given connection v)
closes_by_low true Data.Open v = closes_low v
closes_by_low true Data.Free v = same v
closes_by_low true Data.ListenWanted v = same v
closes_by_low true (Data.Listening port) v = same v
closes_by_low true (Data.Connecting endpoint) v = same v
closes_by_low true (Data.Accepting port) v = same v
closes_by_low true (Data.Over ending) v = same v
closes_by_low false connection v = same v

closes_once_low : (job : Job) (v : View) → Low v (closes_once_given job v)
closes_once_low (Transferring op transfer) v = closes_by_low (has_begun transfer.replied && is_given transfer.flow) v.connection v
closes_once_low Idle v = same v
closes_once_low (Waiting op) v = same v
closes_once_low (Doing op step) v = same v
closes_once_low (Told answer) v = same v

-- a Peek that is to abort has its ABOR still to begin
to_abort_left : (begun : Bool) (abort : Abort) (count : Option ℕ) (flow : Flow) → (is_unsent abort && begun && has_settled count flow) ≡ true
    → abort_left abort count ≡ 1
to_abort_left true Aborts.Unsent (Some count) flow is = refl
to_abort_left true Aborts.Unsent None flow is = absurd (cc)
to_abort_left false Aborts.Unsent count flow is = absurd (cc)
to_abort_left begun Aborts.Sent count flow is = absurd (cc)
to_abort_left begun Aborts.Answered count flow is = absurd (cc)

pub is_to_abort_left : (connection : ClientLink) (op : Op (List ℕ)) (transfer : Transfer) → is_to_abort connection op transfer ≡ true
    → abort_left transfer.abort (count_of op) ≡ 1
is_to_abort_left Data.Open op transfer is = to_abort_left (has_begun transfer.replied) transfer.abort (count_of op) transfer.flow is
is_to_abort_left Data.Free op transfer is = absurd (cc)
is_to_abort_left Data.ListenWanted op transfer is = absurd (cc)
is_to_abort_left (Data.Listening port) op transfer is = absurd (cc)
is_to_abort_left (Data.Connecting endpoint) op transfer is = absurd (cc)
is_to_abort_left (Data.Accepting port) op transfer is = absurd (cc)
is_to_abort_left (Data.Over ending) op transfer is = absurd (cc)

sends_abort_low : (op : Op (List ℕ)) (transfer : Transfer) (v : View) → v.job ≡ Transferring op transfer → abort_left transfer.abort (count_of op) ≡ 1 → Low v (sends_abort op transfer v)
sends_abort_low op transfer v is one =
    let here : job_left v.run v.job ≡ transfer_left op transfer.replied transfer.abort + run_left v.run op = ap (job_left v.run) is in
    falls 0 v (sends_abort op transfer v) (omega (arith, here, one))

aborts_if_low : (b : Bool) (op : Op (List ℕ)) (transfer : Transfer) (v : View) → v.job ≡ Transferring op transfer → is_to_abort v.connection op transfer ≡ b
    → Low v (if b then sends_abort op transfer v else v)
aborts_if_low true op transfer v is to_abort = sends_abort_low op transfer v is (is_to_abort_left v.connection op transfer to_abort)
aborts_if_low false op transfer v is to_abort = same v

aborts_once_low : (job : Job) (v : View) → v.job ≡ job → Low v (aborts_once_enough job v)
aborts_once_low (Transferring op transfer) v is = aborts_if_low (is_to_abort v.connection op transfer) op transfer v is refl
aborts_once_low Idle v is = same v
aborts_once_low (Waiting op) v is = same v
aborts_once_low (Doing op step) v is = same v
aborts_once_low (Told answer) v is = same v

pub carries_on_low : (v : View) → Low v (carries_on v)
carries_on_low v =
    let closed = closes_once_given v.job v in
    let aborted = aborts_once_enough closed.job closed in
    both 0 v closed (carries_on v) (closes_once_low v.job v)
    (both 0 closed aborted (carries_on v) (aborts_once_low closed.job closed refl) (answers_job_low aborted.job aborted))

then_carries_on : (old v : View) → Low old v → Low old (carries_on v)
then_carries_on old v one = both 0 old v (carries_on v) one (carries_on_low v)

-- a transfer's replies change, in a view where no more is owed or stands
reply_low : (replied : Replied) (op : Op (List ℕ)) (transfer : Transfer) (old w : View) → opening_left replied ≡ 0 → old.job ≡ Transferring op transfer
    → w.standing ≡ old.standing → w.run ≡ old.run → w.owed ≡ old.owed → closes_left w ≤ closes_left old → Low old (with_reply replied op transfer w)
reply_low replied op transfer old w none is standing runs owes closing =
    let here : job_left old.run old.job ≡ transfer_left op transfer.replied transfer.abort + run_left old.run op = ap (job_left old.run) is in
    let octets : upload_left old.job ≡ octets_left transfer.flow = ap upload_left is in
    let login : login_left w.standing ≡ login_left old.standing = ap login_left standing in
    let same_run : run_left w.run op ≡ run_left old.run op = ap (λ run. run_left run op) runs in
    let length_is : length w.owed ≡ length old.owed = ap length owes in
    then_carries_on old (record w { job = Transferring op (record transfer { replied = replied }) })
    (record { begins = omega (arith, none, login, here, same_run); gives = inr (omega (arith, octets, length_is, closing)) })

closes_less : (v : View) → closes_left (closes v) ≤ closes_left v
closes_less v = omega (arith, one_close v.closing (stands v.connection))

pub stands_awaited : (connection : ClientLink) → stands (awaited connection) ≡ stands connection
stands_awaited Data.Free = refl
stands_awaited Data.ListenWanted = refl
stands_awaited (Data.Listening port) = refl
stands_awaited (Data.Connecting endpoint) = refl
stands_awaited (Data.Accepting port) = refl
stands_awaited Data.Open = refl
stands_awaited (Data.Over ending) = refl

opened_low : (code : ℕ) (op : Op (List ℕ)) (transfer : Transfer) (v : View) → v.job ≡ Transferring op transfer → Low v (transfer_opened code op transfer v)
opened_low code op transfer v is =
    let w : View = record v { connection = awaited v.connection } in
    let stand : one_if (stands (awaited v.connection)) ≡ one_if (stands v.connection) = ap one_if (stands_awaited v.connection) in
    if_low (code == 110) v v (with_reply Replies.Begun op transfer w) (same v)
    (reply_low Replies.Begun op transfer v w refl is refl refl refl (omega (arith, stand)))

octets_marked : (mark : Option ℕ) (flow : Flow) → octets_left (marked_flow mark flow) ≡ octets_left flow
octets_marked None (Sending left before) = refl
octets_marked (Some mark) (Sending left before) = refl
octets_marked None (Receiving decoder before) = refl
octets_marked (Some mark) (Receiving decoder before) = refl

-- another flow, of no more octets
flow_low : (op : Op (List ℕ)) (transfer : Transfer) (flow : Flow) (v : View) → v.job ≡ Transferring op transfer → octets_left flow ≤ octets_left transfer.flow
    → Low v (record v { job = Transferring op (record transfer { flow = flow }) })
flow_low op transfer flow v is fewer =
    let here : job_left v.run v.job ≡ transfer_left op transfer.replied transfer.abort + run_left v.run op = ap (job_left v.run) is in
    let octets : upload_left v.job ≡ octets_left transfer.flow = ap upload_left is in
    record { begins = omega (arith, here); gives = inr (omega (arith, octets, fewer)) }

noted_low : (code : ℕ) (text : Text) (op : Op (List ℕ)) (transfer : Transfer) (v : View) → v.job ≡ Transferring op transfer → Low v (noted code text op transfer v)
noted_low code text op transfer v is =
    let flow : Flow = marked_flow (mark_value text) transfer.flow in
    let fewer : octets_left flow ≡ octets_left transfer.flow = octets_marked (mark_value text) transfer.flow in
    if_low (code == 110) v (record v { job = Transferring op (record transfer { flow = flow }) }) v (flow_low op transfer flow v is (omega (arith, fewer))) (same v)

final_low : (code : ℕ) (op : Op (List ℕ)) (transfer : Transfer) (v : View) → v.job ≡ Transferring op transfer → Low v (with_reply (Replies.Final code) op transfer v)
final_low code op transfer v is = reply_low (Replies.Final code) op transfer v v refl is refl refl refl (omega arith)

closed_low : (code : ℕ) (op : Op (List ℕ)) (transfer : Transfer) (v : View) → v.job ≡ Transferring op transfer → Low v (with_reply (Replies.Final code) op transfer (closes v))
closed_low code op transfer v is = reply_low (Replies.Final code) op transfer v (closes v) refl is refl refl refl (closes_less v)

unless_low : (connection : ClientLink) (code : ℕ) (op : Op (List ℕ)) (transfer : Transfer) (v : View) → v.job ≡ Transferring op transfer
    → Low v (with_reply (Replies.Final code) op transfer (unless_open connection v))
unless_low Data.Open code op transfer v is = final_low code op transfer v is
unless_low (Data.Over ending) code op transfer v is = final_low code op transfer v is
unless_low Data.Free code op transfer v is = closed_low code op transfer v is
unless_low Data.ListenWanted code op transfer v is = closed_low code op transfer v is
unless_low (Data.Listening port) code op transfer v is = closed_low code op transfer v is
unless_low (Data.Connecting endpoint) code op transfer v is = closed_low code op transfer v is
unless_low (Data.Accepting port) code op transfer v is = closed_low code op transfer v is

before_low : (verdict : Verdict) (code : ℕ) (op : Op (List ℕ)) (transfer : Transfer) (v : View) → v.job ≡ Transferring op transfer → Low v (before_opening verdict code op transfer v)
before_low Preliminary code op transfer v is = opened_low code op transfer v is
before_low Negative code op transfer v is = closed_low code op transfer v is
before_low Completion code op transfer v is = strange_low v
before_low Intermediate code op transfer v is = strange_low v
before_low Closing code op transfer v is = strange_low v
before_low Displaced code op transfer v is = strange_low v

behind_low : (verdict : Verdict) (code : ℕ) (text : Text) (op : Op (List ℕ)) (transfer : Transfer) (v : View) → v.job ≡ Transferring op transfer
    → Low v (behind_opening verdict code text op transfer v)
behind_low Preliminary code text op transfer v is = noted_low code text op transfer v is
behind_low Completion code text op transfer v is = final_low code op transfer v is
behind_low Negative code text op transfer v is = unless_low v.connection code op transfer v is
behind_low Intermediate code text op transfer v is = strange_low v
behind_low Closing code text op transfer v is = strange_low v
behind_low Displaced code text op transfer v is = strange_low v

abort_answered_low : (abort : Abort) (verdict : Verdict) (op : Op (List ℕ)) (transfer : Transfer) (v : View) → v.job ≡ Transferring op transfer
    → Low v (abort_answered abort verdict op transfer v)
abort_answered_low Aborts.Sent Completion op transfer v is =
    let here : job_left v.run v.job ≡ transfer_left op transfer.replied transfer.abort + run_left v.run op = ap (job_left v.run) is in
    let octets : upload_left v.job ≡ octets_left transfer.flow = ap upload_left is in
    then_carries_on v (record v { job = Transferring op (record transfer { abort = Aborts.Answered }) })
    (record { begins = omega (arith, here); gives = inr (omega (arith, octets)) })
abort_answered_low Aborts.Sent Preliminary op transfer v is = strange_low v
abort_answered_low Aborts.Sent Intermediate op transfer v is = strange_low v
abort_answered_low Aborts.Sent Negative op transfer v is = strange_low v
abort_answered_low Aborts.Sent Closing op transfer v is = strange_low v
abort_answered_low Aborts.Sent Displaced op transfer v is = strange_low v
abort_answered_low Aborts.Unsent verdict op transfer v is = strange_low v
abort_answered_low Aborts.Answered verdict op transfer v is = strange_low v

transfer_low : (replied : Replied) (verdict : Verdict) (code : ℕ) (text : Text) (op : Op (List ℕ)) (transfer : Transfer) (v : View) → v.job ≡ Transferring op transfer
    → Low v (transfer_answered replied verdict code text op transfer v)
transfer_low Replies.Nothing verdict code text op transfer v is = before_low verdict code op transfer v is
transfer_low Replies.Begun verdict code text op transfer v is = behind_low verdict code text op transfer v is
transfer_low (Replies.Final before) verdict code text op transfer v is = abort_answered_low transfer.abort verdict op transfer v is

-- ---- a reply

job_low : (job : Job) (verdict : Verdict) (code : ℕ) (texts : List Text) (v : View) → v.job ≡ job → Low v (job_answered job verdict code texts v)
job_low (Doing op step) verdict code texts v is = step_low op step verdict code texts v is
job_low (Transferring op transfer) verdict code texts v is = transfer_low transfer.replied verdict code (joined texts) op transfer v is
job_low Idle verdict code texts v is = strange_low v
job_low (Waiting op) verdict code texts v is = strange_low v
job_low (Told answer) verdict code texts v is = strange_low v

stand_low : (standing : Standing) (verdict : Verdict) (code : ℕ) (texts : List Text) (v : View) → v.standing ≡ standing → Low v (stand_answered standing verdict code texts v)
stand_low Stands.Greeting verdict code texts v is = greeted_low verdict code v is
stand_low Stands.User verdict code texts v is = user_low verdict v is
stand_low Stands.Pass verdict code texts v is = pass_low verdict v
stand_low Stands.Entered verdict code texts v is = job_low v.job verdict code texts v refl
stand_low (Stands.Failed failure) verdict code texts v is = same v

judged_low : (verdict : Verdict) (code : ℕ) (texts : List Text) (v : View) → Low v (judged_reply verdict code texts v)
judged_low Closing code texts v = fails_low v.standing Failures.Lost v
judged_low Displaced code texts v = strange_low v
judged_low Preliminary code texts v = stand_low v.standing Preliminary code texts v refl
judged_low Completion code texts v = stand_low v.standing Completion code texts v refl
judged_low Intermediate code texts v = stand_low v.standing Intermediate code texts v refl
judged_low Negative code texts v = stand_low v.standing Negative code texts v refl

answered_low : (code : ℕ) (texts : List Text) (v : View) → Low v (answered code texts v)
unfolding answered
answered_low code texts v = judged_low (verdict_of code) code texts v

-- ---- one control octet

-- what the ear has of a line is no matter here
pub line_low : (heard : Heard) (v : View) → Low v (line_taken heard v)
line_low (GoesOn gathered) v = record { begins = omega arith; gives = inr (omega arith) }
line_low (Says code texts) v =
    let w : View = record v { gathered = Between } in
    both 0 v w (answered code texts w) (record { begins = omega arith; gives = inr (omega arith) }) (answered_low code texts w)
line_low (Faulty fault) v = strange_low v

-- an answer has three octets at most
abbrev IsSmall : NvtEvent → Type 0
IsSmall (line text) = Unit {0}
IsSmall too_long = Unit {0}
IsSmall (owed answer) = length answer ≤ 3

event_low : (event : NvtEvent) (v : View) → IsSmall event → AddsAtMost 3 v (event_taken event v)
event_low (line text) v small = let low = line_low (line_heard v.gathered text) v in by_cases low.begins low.gives
  where
    w : View
    w = line_taken (line_heard v.gathered text) v

    by_cases : to_begin w ≤ to_begin v → (to_begin w < to_begin v) ⊎ (still_to_give w ≤ still_to_give v + 0) → AddsAtMost 3 v w
    by_cases begins (inl less) = record { begins = begins; gives = inl less }
    by_cases begins (inr few) = record { begins = begins; gives = inr (omega (arith, few)) }
event_low too_long v small = let low = strange_low v in by_cases low.begins low.gives
  where
    by_cases : to_begin (strange v) ≤ to_begin v → (to_begin (strange v) < to_begin v) ⊎ (still_to_give (strange v) ≤ still_to_give v + 0) → AddsAtMost 3 v (strange v)
    by_cases begins (inl less) = record { begins = begins; gives = inl less }
    by_cases begins (inr few) = record { begins = begins; gives = inr (omega (arith, few)) }
event_low (owed answer) v small = record { begins = omega arith; gives = inr (omega (arith, length-append v.owed answer, small)) }

-- an octet says one thing at most
abbrev SaysFew : List NvtEvent → Type 0
SaysFew events = (events ≡ []) ⊎ ((event : NvtEvent) × (events ≡ event ∷ []) × IsSmall event)

within_few : (u : Unfinished) (c : ℕ) → SaysFew (within_out reply_limit u c)
within_few u c =
    elim (decided (u.count == reply_limit)) [
      | inl e ↦ rw e (inr (too_long, refl, tt))
      | inr e ↦ rw e (elim (decided (c == 10)) [
        | inl f ↦ rw f (inr (line (ended_text u.stage u.text), refl, tt))
        | inr f ↦ rw f (inl refl)
      ])
    ]

line_few : (stage : Stage) (u : Unfinished) (c : ℕ) → SaysFew (line_out reply_limit stage u c)
line_few Lined.Start u c = within_few u c
line_few Lined.Inside u c = within_few u c
line_few Lined.AfterReturn u c = within_few u c
line_few Lined.Past u c = inl refl

with_none : (events : List NvtEvent) → SaysFew events → SaysFew (events ++ [])
with_none events few = subst SaysFew (sym (append-nil events)) few

unit_few : (u : Unfinished) (unit : TelnetUnit) → SaysFew (unit_says reply_limit u unit)
unit_few u (data_octet c) =
    let few = line_few u.stage u c in
    with_none (line_out reply_limit u.stage u c ++ []) (with_none (line_out reply_limit u.stage u c) few)
unit_few u (option verb c) =
    elim (decided (verb == 253)) [
      | inl e ↦ rw e (inr (owed (255 ∷ 252 ∷ c ∷ []), refl, omega arith))
      | inr e ↦ rw e (elim (decided (verb == 251)) [
        | inl f ↦ rw f (inr (owed (255 ∷ 254 ∷ c ∷ []), refl, omega arith))
        | inr f ↦ rw f (inl refl)
      ])
    ]
unit_few u subnegotiation = inl refl
unit_few u (command c) = inl refl

out_few : (e : Ear) (c : ℕ) → SaysFew (ear_out reply_limit e c)
out_few e c =
    let P : List TelnetUnit → Type 0 = λ us. SaysFew (flat_map (unit_says reply_limit e.line) us) in
    elim (ends e.place c) [
      | inl f ↦ subst P (sym f) (inl refl)
      | inr f ↦ subst P (sym f.1) (with_none (unit_says reply_limit e.line f.0) (unit_few e.line f.0))
    ]

pub hearing_lowers : HearingAddsAnAnswer
hearing_lowers v octet =
    let w : View = record v { ear = ear_step reply_limit v.ear octet } in
    let P : List NvtEvent → Type 0 = λ events. AddsAtMost 3 v (events_taken events w) in
    elim (out_few v.ear octet) [
      | inl e ↦ subst P (sym e) (record { begins = omega arith; gives = inr (omega arith) })
      | inr e ↦ subst P (sym e.1) (let low = event_low e.0 w e.2 in record { begins = low.begins; gives = low.gives })
    ]

-- ---- octets of the data connection

octets_heard : (flow : Flow) (octet : ℕ) → octets_left (flow_octet flow octet) ≡ octets_left flow
octets_heard (Sending left mark) octet = refl
octets_heard (Receiving decoder mark) octet = refl

octets_heard_by : (abort : Abort) (flow : Flow) (octet : ℕ) → octets_left (heard_flow abort flow octet) ≡ octets_left flow
octets_heard_by Aborts.Unsent flow octet = octets_heard flow octet
octets_heard_by Aborts.Sent flow octet = refl
octets_heard_by Aborts.Answered flow octet = refl

with_flow_low : (op : Op (List ℕ)) (transfer : Transfer) (flow : Flow) (v : View) → v.job ≡ Transferring op transfer → octets_left flow ≡ octets_left transfer.flow
    → Low v (with_flow op transfer flow v)
with_flow_low op transfer flow v is octets =
    let heard : Transfer = record transfer { flow = flow } in
    let w : View = record v { job = Transferring op heard } in
    both 0 v w (aborts_once_enough (Transferring op heard) w) (flow_low op transfer flow v is (omega (arith, octets)))
    (aborts_once_low (Transferring op heard) w refl)

heard_low : (job : Job) (octet : ℕ) (v : View) → v.job ≡ job → Low v (heard_by job octet v)
heard_low (Transferring op transfer) octet v is =
    with_flow_low op transfer (heard_flow transfer.abort transfer.flow octet) v is (octets_heard_by transfer.abort transfer.flow octet)
heard_low Idle octet v is = same v
heard_low (Waiting op) octet v is = same v
heard_low (Doing op step) octet v is = same v
heard_low (Told answer) octet v is = same v

pub receiving_lowers : ReceivingAddsNone
receiving_lowers v octet = heard_low v.job octet v refl

octets_went : (count : ℕ) (flow : Flow) → octets_left (went count flow) ≤ octets_left flow
octets_went count (Sending left mark) = omega (arith, length-drop count left)
octets_went count (Receiving decoder mark) = omega arith

goes_low : (count : ℕ) (job : Job) (v : View) → v.job ≡ job → Low v (goes_by count job v)
goes_low count (Transferring op transfer) v is =
    then_carries_on v (record v { job = Transferring op (record transfer { flow = went count transfer.flow }) })
    (flow_low op transfer (went count transfer.flow) v is (octets_went count transfer.flow))
goes_low count Idle v is = same v
goes_low count (Waiting op) v is = same v
goes_low count (Doing op step) v is = same v
goes_low count (Told answer) v is = same v

-- ---- events of the data connection

listening_step_low : (step : Step) (op : Op (List ℕ)) (port : ℕ) (v : View) → v.job ≡ Doing op step → Low v (listening_by Data.ListenWanted (Doing op step) port v)
listening_step_low Steps.Listen op port v is = goes_on_low op Steps.Listen v (record v { connection = Data.Listening port }) refl is refl refl
listening_step_low Steps.Kind op port v is = same v
listening_step_low Steps.Structure op port v is = same v
listening_step_low Steps.Mode op port v is = same v
listening_step_low Steps.Port op port v is = same v
listening_step_low Steps.Passive op port v is = same v
listening_step_low Steps.Connect op port v is = same v
listening_step_low Steps.Restart op port v is = same v
listening_step_low Steps.Source op port v is = same v
listening_step_low Steps.Last op port v is = same v

listening_low : (connection : ClientLink) (job : Job) (port : ℕ) (v : View) → v.job ≡ job → Low v (listening_by connection job port v)
listening_low Data.ListenWanted (Doing op step) port v is = listening_step_low step op port v is
listening_low Data.ListenWanted Idle port v is = same v
listening_low Data.ListenWanted (Waiting op) port v is = same v
listening_low Data.ListenWanted (Transferring op transfer) port v is = same v
listening_low Data.ListenWanted (Told answer) port v is = same v
listening_low Data.Free job port v is = same v
listening_low (Data.Listening before) job port v is = same v
listening_low (Data.Connecting endpoint) job port v is = same v
listening_low (Data.Accepting before) job port v is = same v
listening_low Data.Open job port v is = same v
listening_low (Data.Over ending) job port v is = same v

no_port_low : (connection : ClientLink) (v : View) → Low v (no_port_by connection v)
no_port_low Data.ListenWanted v = finishes_low Unopened v
no_port_low Data.Free v = same v
no_port_low (Data.Listening port) v = same v
no_port_low (Data.Connecting endpoint) v = same v
no_port_low (Data.Accepting port) v = same v
no_port_low Data.Open v = same v
no_port_low (Data.Over ending) v = same v

connected_step_low : (step : Step) (op : Op (List ℕ)) (v : View) → v.job ≡ Doing op step → Low v (connected (Doing op step) v)
connected_step_low Steps.Connect op v is = goes_on_low op Steps.Connect v (record v { connection = Data.Open }) refl is refl refl
connected_step_low Steps.Kind op v is = same v
connected_step_low Steps.Structure op v is = same v
connected_step_low Steps.Mode op v is = same v
connected_step_low Steps.Listen op v is = same v
connected_step_low Steps.Port op v is = same v
connected_step_low Steps.Passive op v is = same v
connected_step_low Steps.Restart op v is = same v
connected_step_low Steps.Source op v is = same v
connected_step_low Steps.Last op v is = same v

connected_low : (job : Job) (v : View) → v.job ≡ job → Low v (connected job v)
connected_low (Doing op step) v is = connected_step_low step op v is
connected_low Idle v is = same v
connected_low (Waiting op) v is = same v
connected_low (Transferring op transfer) v is = same v
connected_low (Told answer) v is = same v

accepted_low : (ours : Bool) (port : ℕ) (v : View) → v.connection ≡ Data.Accepting port → Low v (accepted ours v)
accepted_low true port v is =
    let stand : one_if (stands v.connection) ≡ 1 = ap (λ connection. one_if (stands connection)) is in
    then_carries_on v (record v { connection = Data.Open }) (record { begins = omega arith; gives = inr (omega (arith, stand)) })
accepted_low false port v is =
    let stand : one_if (stands v.connection) ≡ 1 = ap (λ connection. one_if (stands connection)) is in
    then_carries_on v (record v { connection = Data.Over Endings.Foreign; closing = true }) (record { begins = omega arith; gives = inr (omega (arith, stand)) })

pub opened_by_low : (connection : ClientLink) (host : Host) (v : View) → v.connection ≡ connection → Low v (opened_by connection host v)
opened_by_low (Data.Connecting endpoint) host v is = connected_low v.job v refl
opened_by_low (Data.Accepting port) host v is = accepted_low (same_host host v.peer) port v is
opened_by_low Data.Free host v is = same v
opened_by_low Data.ListenWanted host v is = same v
opened_by_low (Data.Listening port) host v is = same v
opened_by_low Data.Open host v is = same v
opened_by_low (Data.Over ending) host v is = same v

unopened_low : (connection : ClientLink) (v : View) → v.connection ≡ connection → Low v (unopened_by connection v)
unopened_low (Data.Connecting endpoint) v is = finishes_low Unopened v
unopened_low (Data.Accepting port) v is =
    let stand : one_if (stands v.connection) ≡ 1 = ap (λ connection. one_if (stands connection)) is in
    then_carries_on v (record v { connection = Data.Over Endings.Broken; closing = true }) (record { begins = omega arith; gives = inr (omega (arith, stand)) })
unopened_low Data.Free v is = same v
unopened_low Data.ListenWanted v is = same v
unopened_low (Data.Listening port) v is = same v
unopened_low Data.Open v is = same v
unopened_low (Data.Over ending) v is = same v

over_low : (connection : ClientLink) (ending : Ending) (v : View) → Low v (over_by connection ending v)
over_low Data.Open ending v =
    then_carries_on v (record v { connection = Data.Over ending }) (record { begins = omega arith; gives = inr (omega arith) })
over_low Data.Free ending v = same v
over_low Data.ListenWanted ending v = same v
over_low (Data.Listening port) ending v = same v
over_low (Data.Connecting endpoint) ending v = same v
over_low (Data.Accepting port) ending v = same v
over_low (Data.Over before) ending v = same v

pub one_more : (v w : View) → Low v w → AddsAtMost 1 v w
one_more v w low = record { begins = low.begins; gives = by_case low.gives }
  where
    by_case : (to_begin w < to_begin v) ⊎ (still_to_give w ≤ still_to_give v + 0) → (to_begin w < to_begin v) ⊎ (still_to_give w ≤ still_to_give v + 1)
    by_case (inl less) = inl less
    by_case (inr few) = inr (omega (arith, few))

events_lower : (v : View) → EventsAdd v
unfolding listening listen_refused data_opened data_refused data_end data_fault control_end gives_data
events_lower v = record {
  listening_lowers = λ port. if_low v.closing v v (listening_by v.connection v.job port v) (same v) (listening_low v.connection v.job port v refl);
  refused_lowers = if_low v.closing v v (no_port_by v.connection v) (same v) (no_port_low v.connection v);
  opened_lowers = λ host. if_low v.closing v v (opened_by v.connection host v) (same v) (opened_by_low v.connection host v refl);
  unopened_lowers = if_low v.closing v v (unopened_by v.connection v) (same v) (unopened_low v.connection v refl);
  end_lowers = if_low v.closing v v (over_by v.connection (ending_of v.job) v) (same v) (over_low v.connection (ending_of v.job) v);
  fault_lowers = if_low v.closing v v (over_by v.connection Endings.Broken v) (same v) (over_low v.connection Endings.Broken v);
  control_end_lowers = fails_low v.standing Failures.Lost v;
  gives_lowers = λ count. goes_low count v.job v refl;
}

pub calls_lower : EventsAddNone
calls_lower v = events_lower v
