-- A client that is to close its data connection hears what one hears that is not, but for that.
use Rattle.std.proofs.Common.{◌≡◌, ℕ, ◌==◌, ◌&&◌, Bool, true, false, List, [], ◌∷◌, Option, Some, None, refl, sym, ap, ◌∙◌}
use Rattle.std.specs.Option.{option_map}
use Rattle.std.specs.Prelude.{if◌then◌else◌}
use Rattle.ftp_command.specs.declared.command.Command.{Command}
use Rattle.ftp_endpoint.specs.declared.endpoint.Endpoint.{Endpoint}
use Rattle.ftp_ends.specs.Ear.{ear}
use Rattle.ftp_ends.specs.Link.{same_host}
use Rattle.ftp_ends.specs.Reply.{reply_limit}
use Rattle.ftp_nvt.specs.Lines.{NvtEvent, line, too_long, owed}
use Rattle.ftp_operation.specs.Answer.{Foreign, Refused, Said}
use Rattle.ftp_operation.specs.declared.op.Op.{Op}
use Rattle.ftp_reply.specs.Lines.{Text, joined}
use Rattle.ftp_reply.specs.Reader.{Between, Faulty, GoesOn, Heard, Says, line_heard}
use Rattle.ftp_reply.specs.Values.{extended_value, mark_value, passive_value}
use Rattle.ftp_reply.specs.declared.code.TheConstants.{DELAYED, MARK}
use Rattle.ftp_client_model.specs.Calls.{data_closed, event_taken, events_taken, hears, hears_octet, line_taken}
use Rattle.ftp_client_model.specs.Dialogue.{abort_answered, aborts_once_enough, answer_in, answered, answers_by, answers_job, answers_once_over, awaited, awaits_reply, before_opening, begins, behind_opening, carries_on, closes, closes_once_given, closes_once_given_by, dials, endpoint_named, enters_with, finishes, finishes_by, finishes_read, goes_on, greeted, has_begun, intermediate, is_given, is_to_abort, job_answered, judged, judged_reply, last_job, login_ends, marked_flow, next_job, noted, pass_answered, passive_named, placed, port_named, refused, sends_abort, sends_if, set_accepted, stand_answered, step_answered, step_done, transfer_answered, transfer_opened, unless_open, user_answered, with_reply}
use Rattle.ftp_client_model.specs.Octets.{flow_of}
use Rattle.ftp_client_model.specs.Plan.{asked_settings, command_of, first_step, is_extended, next_step, settings_behind}
use Rattle.ftp_client_model.specs.Replies.{Closing, Completion, Displaced, Intermediate, Negative, Preliminary, Verdict, verdict_of}
use Rattle.ftp_client_model.specs.Tries.{run_at}
use Rattle.ftp_client_model.specs.View.{Doing, Flow, Job, Transfer, Transferring, View, Waiting, dropped, fails, fails_by, strange}
use Rattle.ftp_client_model.specs.declared.client.Abort.{Abort}
use Rattle.ftp_client_model.specs.declared.client.Abort.TheVariants as Aborts
use Rattle.ftp_client_model.specs.declared.client.ClientLink.{ClientLink}
use Rattle.ftp_client_model.specs.declared.client.ClientLink.TheVariants as Data
use Rattle.ftp_client_model.specs.declared.client.Failure.{Failure}
use Rattle.ftp_client_model.specs.declared.client.Failure.TheVariants as Failures
use Rattle.ftp_client_model.specs.declared.client.Replied.{Replied}
use Rattle.ftp_client_model.specs.declared.client.Replied.TheVariants as Replies
use Rattle.ftp_client_model.specs.declared.client.Standing.{Standing}
use Rattle.ftp_client_model.specs.declared.client.Standing.TheVariants as Stands
use Rattle.ftp_client_model.specs.declared.client.Step.{Step}
use Rattle.ftp_client_model.specs.declared.client.Step.TheVariants as Steps

-- it does not look at whether a close is wanted, but for whether one is wanted then
abbrev pub Blind : (View → View) → View → Type 0
Blind does v = data_closed (does (data_closed v)) ≡ data_closed (does v)

-- so it does the same of two that are the same but for that
same_blind : (does : View → View) → ((v : View) → Blind does v) → (v w : View) → data_closed v ≡ data_closed w → data_closed (does v) ≡ data_closed (does w)
same_blind does blind v w same = sym (blind v) ∙ ap (λ u. data_closed (does u)) same ∙ blind w

-- one thing after another
then_blind : (does next : View → View) (v : View) → Blind does v → ((u : View) → Blind next u) → Blind (λ u. next (does u)) v
then_blind does next v first rest = same_blind next rest (does (data_closed v)) (does v) first

-- ---- the steps of an operation

sends_blind : (command : Option (Command (List ℕ))) (v : View) → Blind (sends_if command) v
sends_blind None v = refl
sends_blind (Some command) v = refl

placed_blind : (op : Op (List ℕ)) (step : Step) (v : View) → Blind (placed op step) v
placed_blind op Steps.Kind v = sends_blind (command_of v op Steps.Kind) (record v { job = Doing op Steps.Kind })
placed_blind op Steps.Structure v = sends_blind (command_of v op Steps.Structure) (record v { job = Doing op Steps.Structure })
placed_blind op Steps.Mode v = sends_blind (command_of v op Steps.Mode) (record v { job = Doing op Steps.Mode })
placed_blind op Steps.Listen v = refl
placed_blind op Steps.Port v = sends_blind (command_of v op Steps.Port) (record v { job = Doing op Steps.Port })
placed_blind op Steps.Passive v = sends_blind (command_of v op Steps.Passive) (record v { job = Doing op Steps.Passive })
placed_blind op Steps.Connect v = sends_blind (command_of v op Steps.Connect) (record v { job = Doing op Steps.Connect })
placed_blind op Steps.Restart v = sends_blind (command_of v op Steps.Restart) (record v { job = Doing op Steps.Restart })
placed_blind op Steps.Source v = sends_blind (command_of v op Steps.Source) (record v { job = Doing op Steps.Source })
placed_blind op Steps.Last v = sends_blind (command_of v op Steps.Last) (record v { job = last_job op (flow_of op) })

begins_blind : (op : Op (List ℕ)) (v : View) → Blind (begins op) v
begins_blind op v = placed_blind op (first_step v.settings op) v

goes_blind : (op : Op (List ℕ)) (step : Step) (v : View) → Blind (goes_on op step) v
goes_blind op step v = placed_blind op (next_step v.settings op step) v

-- ---- its end

fails_blind : (failure : Failure) (v : View) → Blind (fails failure) v
fails_blind failure v = by v.standing
  where
    by : (standing : Standing) → data_closed (fails_by standing failure (data_closed v)) ≡ data_closed (fails_by standing failure v)
    by (Stands.Failed before) = refl
    by standing = refl

strange_blind : (v : View) → Blind strange v
strange_blind v = fails_blind Failures.Strange v

finishes_by_blind : (next : Option (Op (List ℕ))) (answer : Said) (v : View) → Blind (finishes_by next answer) v
finishes_by_blind None answer v = refl
finishes_by_blind (Some op) answer v =
    same_blind (begins op) (begins_blind op) (record (dropped (data_closed v)) { run = option_map (run_at op) v.run })
    (record (dropped v) { run = option_map (run_at op) v.run }) refl

finishes_blind : (answer : Said) (v : View) → Blind (finishes answer) v
finishes_blind answer v = finishes_by_blind (next_job v.run v.job answer) answer v

read_blind : (read : Option Said) (v : View) → Blind (finishes_read read) v
read_blind None v = strange_blind v
read_blind (Some answer) v = finishes_blind answer v

-- ---- the login

enters_blind : (job : Job) (v : View) → Blind (enters_with job) v
enters_blind (Waiting op) v = begins_blind op v
enters_blind job v = refl

login_blind : (v : View) → Blind login_ends v
login_blind v = enters_blind v.job (record v { standing = Stands.Entered })

greeted_blind : (verdict : Verdict) (code : ℕ) (v : View) → Blind (greeted verdict code) v
greeted_blind Completion code v = refl
greeted_blind Preliminary code v = by (code == DELAYED)
  where
    by : (b : Bool) → Blind (λ u. if b then u else strange u) v
    by true = refl
    by false = strange_blind v
greeted_blind verdict code v = strange_blind v

user_blind : (verdict : Verdict) (v : View) → Blind (user_answered verdict) v
user_blind Intermediate v = refl
user_blind Completion v = login_blind v
user_blind Negative v = login_blind v
user_blind verdict v = strange_blind v

pass_blind : (verdict : Verdict) (v : View) → Blind (pass_answered verdict) v
pass_blind Completion v = login_blind v
pass_blind Negative v = login_blind v
pass_blind verdict v = strange_blind v

-- ---- an answer at a step

set_blind : (op : Op (List ℕ)) (step : Step) (v : View) → Blind (set_accepted op step) v
set_blind op step v = goes_blind op step (record v { settings = settings_behind step v.settings (asked_settings op) })

dials_blind : (op : Op (List ℕ)) (endpoint : Endpoint) (v : View) → Blind (dials op endpoint) v
dials_blind op endpoint v = goes_blind op Steps.Passive (record v { connection = Data.Connecting endpoint })

endpoint_blind : (named : Option Endpoint) (op : Op (List ℕ)) (v : View) → Blind (endpoint_named named op) v
endpoint_blind None op v = strange_blind v
endpoint_blind (Some endpoint) op v = by (same_host endpoint.host v.peer)
  where
    by : (b : Bool) → Blind (λ u. if b then dials op endpoint u else finishes Foreign u) v
    by true = dials_blind op endpoint v
    by false = finishes_blind Foreign v

port_blind : (named : Option ℕ) (op : Op (List ℕ)) (v : View) → Blind (port_named named op) v
port_blind None op v = strange_blind v
port_blind (Some port) op v = dials_blind op (record { host = v.peer; port = port }) v

passive_blind : (extended : Bool) (op : Op (List ℕ)) (text : Text) (v : View) → Blind (passive_named extended op text) v
passive_blind true op text v = port_blind (extended_value text) op v
passive_blind false op text v = endpoint_blind (passive_value text) op v

done_blind : (op : Op (List ℕ)) (step : Step) (texts : List Text) (v : View) → Blind (step_done op step texts) v
done_blind op Steps.Port texts v = goes_blind op Steps.Port v
done_blind op Steps.Passive texts v = passive_blind (is_extended v op) op (joined texts) v
done_blind op Steps.Last texts v = read_blind (answer_in op texts) v
done_blind op Steps.Listen texts v = strange_blind v
done_blind op Steps.Connect texts v = strange_blind v
done_blind op Steps.Restart texts v = strange_blind v
done_blind op Steps.Source texts v = strange_blind v
done_blind op step texts v = set_blind op step v

between_blind : (op : Op (List ℕ)) (step : Step) (v : View) → Blind (intermediate op step) v
between_blind op Steps.Restart v = goes_blind op Steps.Restart v
between_blind op Steps.Source v = goes_blind op Steps.Source v
between_blind op step v = strange_blind v

refused_blind : (step : Step) (code : ℕ) (v : View) → Blind (refused step code) v
refused_blind step code v = by (awaits_reply step)
  where
    by : (b : Bool) → Blind (λ u. if b then finishes (Refused code) u else strange u) v
    by true = finishes_blind (Refused code) v
    by false = strange_blind v

step_blind : (op : Op (List ℕ)) (step : Step) (verdict : Verdict) (code : ℕ) (texts : List Text) (v : View) → Blind (step_answered op step verdict code texts) v
step_blind op step Completion code texts v = done_blind op step texts v
step_blind op step Intermediate code texts v = between_blind op step v
step_blind op step Negative code texts v = refused_blind step code v
step_blind op step verdict code texts v = strange_blind v

-- ---- a transfer

answers_by_blind : (replied : Replied) (abort : Abort) (connection : ClientLink) (op : Op (List ℕ)) (flow : Flow) (v : View)
    → Blind (answers_by replied abort connection op flow) v
answers_by_blind (Replies.Final code) Aborts.Unsent (Data.Over ending) op flow v = read_blind (judged ending Aborts.Unsent code op flow) v
answers_by_blind (Replies.Final code) Aborts.Answered (Data.Over ending) op flow v = read_blind (judged ending Aborts.Answered code op flow) v
answers_by_blind replied abort connection op flow v = refl

answers_job_blind : (job : Job) (v : View) → Blind (answers_job job) v
answers_job_blind (Transferring op transfer) v = answers_by_blind transfer.replied transfer.abort v.connection op transfer.flow v
answers_job_blind job v = refl

answers_blind : (v : View) → Blind answers_once_over v
answers_blind v = answers_job_blind v.job v

closes_by_blind : (given : Bool) (connection : ClientLink) (v : View) → Blind (closes_once_given_by given connection) v
closes_by_blind true Data.Open v = refl
closes_by_blind given connection v = refl

closes_blind : (job : Job) (v : View) → Blind (closes_once_given job) v
closes_blind (Transferring op transfer) v = closes_by_blind (has_begun transfer.replied && is_given transfer.flow) v.connection v
closes_blind job v = refl

aborts_blind : (job : Job) (v : View) → Blind (aborts_once_enough job) v
aborts_blind (Transferring op transfer) v = by (is_to_abort v.connection op transfer)
  where
    by : (b : Bool) → Blind (λ u. if b then sends_abort op transfer u else u) v
    by true = refl
    by false = refl
aborts_blind job v = refl

carries_blind : (v : View) → Blind carries_on v
carries_blind v =
    then_blind (λ u. closes_once_given u.job u) (λ u. answers_once_over (aborts_once_enough u.job u)) v (closes_blind v.job v)
    (λ u. then_blind (λ x. aborts_once_enough x.job x) answers_once_over u (aborts_blind u.job u) answers_blind)

reply_blind : (replied : Replied) (op : Op (List ℕ)) (transfer : Transfer) (v : View) → Blind (with_reply replied op transfer) v
reply_blind replied op transfer v = carries_blind (record v { job = Transferring op (record transfer { replied = replied }) })

opened_blind : (code : ℕ) (op : Op (List ℕ)) (transfer : Transfer) (v : View) → Blind (transfer_opened code op transfer) v
opened_blind code op transfer v = by (code == MARK)
  where
    by : (b : Bool) → Blind (λ u. if b then u else with_reply Replies.Begun op transfer (record u { connection = awaited u.connection })) v
    by true = refl
    by false = reply_blind Replies.Begun op transfer (record v { connection = awaited v.connection })

noted_blind : (code : ℕ) (text : Text) (op : Op (List ℕ)) (transfer : Transfer) (v : View) → Blind (noted code text op transfer) v
noted_blind code text op transfer v = by (code == MARK)
  where
    by : (b : Bool)
        → Blind (λ u. if b then record u { job = Transferring op (record transfer { flow = marked_flow (mark_value text) transfer.flow }) } else u) v
    by true = refl
    by false = refl

unless_blind : (connection : ClientLink) (v : View) → Blind (unless_open connection) v
unless_blind Data.Open v = refl
unless_blind (Data.Over ending) v = refl
unless_blind connection v = refl

before_blind : (verdict : Verdict) (code : ℕ) (op : Op (List ℕ)) (transfer : Transfer) (v : View) → Blind (before_opening verdict code op transfer) v
before_blind Preliminary code op transfer v = opened_blind code op transfer v
before_blind Negative code op transfer v =
    same_blind (with_reply (Replies.Final code) op transfer) (reply_blind (Replies.Final code) op transfer) (closes (data_closed v)) (closes v) refl
before_blind verdict code op transfer v = strange_blind v

behind_blind : (verdict : Verdict) (code : ℕ) (text : Text) (op : Op (List ℕ)) (transfer : Transfer) (v : View)
    → Blind (behind_opening verdict code text op transfer) v
behind_blind Preliminary code text op transfer v = noted_blind code text op transfer v
behind_blind Completion code text op transfer v = reply_blind (Replies.Final code) op transfer v
behind_blind Negative code text op transfer v =
    same_blind (with_reply (Replies.Final code) op transfer) (reply_blind (Replies.Final code) op transfer) (unless_open v.connection (data_closed v))
    (unless_open v.connection v) (unless_blind v.connection v)
behind_blind verdict code text op transfer v = strange_blind v

abort_blind : (abort : Abort) (verdict : Verdict) (op : Op (List ℕ)) (transfer : Transfer) (v : View) → Blind (abort_answered abort verdict op transfer) v
abort_blind Aborts.Sent Completion op transfer v = carries_blind (record v { job = Transferring op (record transfer { abort = Aborts.Answered }) })
abort_blind abort verdict op transfer v = strange_blind v

transfer_blind : (replied : Replied) (verdict : Verdict) (code : ℕ) (text : Text) (op : Op (List ℕ)) (transfer : Transfer) (v : View)
    → Blind (transfer_answered replied verdict code text op transfer) v
transfer_blind Replies.Nothing verdict code text op transfer v = before_blind verdict code op transfer v
transfer_blind Replies.Begun verdict code text op transfer v = behind_blind verdict code text op transfer v
transfer_blind (Replies.Final before) verdict code text op transfer v = abort_blind transfer.abort verdict op transfer v

-- ---- a reply

job_blind : (job : Job) (verdict : Verdict) (code : ℕ) (texts : List Text) (v : View) → Blind (job_answered job verdict code texts) v
job_blind (Doing op step) verdict code texts v = step_blind op step verdict code texts v
job_blind (Transferring op transfer) verdict code texts v = transfer_blind transfer.replied verdict code (joined texts) op transfer v
job_blind job verdict code texts v = strange_blind v

stand_blind : (standing : Standing) (verdict : Verdict) (code : ℕ) (texts : List Text) (v : View) → Blind (stand_answered standing verdict code texts) v
stand_blind Stands.Greeting verdict code texts v = greeted_blind verdict code v
stand_blind Stands.User verdict code texts v = user_blind verdict v
stand_blind Stands.Pass verdict code texts v = pass_blind verdict v
stand_blind Stands.Entered verdict code texts v = job_blind v.job verdict code texts v
stand_blind (Stands.Failed failure) verdict code texts v = refl

judged_blind : (verdict : Verdict) (code : ℕ) (texts : List Text) (v : View) → Blind (judged_reply verdict code texts) v
judged_blind Closing code texts v = fails_blind Failures.Lost v
judged_blind Displaced code texts v = strange_blind v
judged_blind verdict code texts v = stand_blind v.standing verdict code texts v

answered_blind : (code : ℕ) (texts : List Text) (v : View) → Blind (answered code texts) v
unfolding answered
answered_blind code texts v = judged_blind (verdict_of code) code texts v

-- ---- octets

line_blind : (heard : Heard) (v : View) → Blind (line_taken heard) v
line_blind (GoesOn gathered) v = refl
line_blind (Says code texts) v = answered_blind code texts (record v { gathered = Between })
line_blind (Faulty fault) v = strange_blind v

event_blind : (event : NvtEvent) (v : View) → Blind (event_taken event) v
event_blind (line text) v = line_blind (line_heard v.gathered text) v
event_blind too_long v = strange_blind v
event_blind (owed octets) v = refl

events_blind : (events : List NvtEvent) (v : View) → Blind (events_taken events) v
events_blind [] v = refl
events_blind (event ∷ events) v = then_blind (event_taken event) (events_taken events) v (event_blind event v) (events_blind events)

octet_blind : (octet : ℕ) (v : View) → Blind (λ u. hears_octet u octet) v
octet_blind octet v = events_blind ((ear reply_limit).out v.ear octet) (record v { ear = (ear reply_limit).step v.ear octet })

pub hears_blind : (octets : List ℕ) (v : View) → Blind (λ u. hears u octets) v
hears_blind [] v = refl
hears_blind (octet ∷ octets) v = then_blind (λ u. hears_octet u octet) (λ u. hears u octets) v (octet_blind octet v) (hears_blind octets)
