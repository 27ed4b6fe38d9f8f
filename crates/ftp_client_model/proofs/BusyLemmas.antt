-- No call of a client but `start` and `upload` makes it busy: a client that has no operation gets none.
use Rattle.std.proofs.Common.{◌≡◌, ℕ, List, [], ◌∷◌, Bool, true, false, ◌==◌, refl, ap, ◌∙◌, take}
use Rattle.std.specs.Prelude.{IsTrue, if◌then◌else◌}
use Rattle.ftp_nvt.specs.Lines.{NvtEvent, line, too_long, owed}
use Rattle.ftp_endpoint.specs.declared.host.Host.{Host}
use Rattle.ftp_reply.specs.Lines.{Text}
use Rattle.ftp_reply.specs.Reader.{Heard, GoesOn, Says, Faulty, Between, line_heard}
use Rattle.ftp_ends.specs.Ear.{ear}
use Rattle.ftp_ends.specs.Link.{same_host}
use Rattle.ftp_client_model.specs.Busy.{BusyBefore, OfCalls, OfRefusals, OfShortCalls, LeavesNone, OnlyBeginsBusy, is_over}
use Rattle.ftp_client_model.specs.Calls.{reply_limit, is_busy, is_busy_job, reported_by, reports, line_taken, event_taken, events_taken, hears_octet, hears, gives_control, control_end, listening_by, listening, no_port_by, listen_refused, connected, accepted, opened_by, data_opened, unopened_by, data_refused, ending_of, over_by, data_end, data_fault, data_closed, heard_by, receives_octet, receives, goes_by, gives_data}
use Rattle.ftp_client_model.specs.Dialogue.{closes_once_given, aborts_once_enough, answers_job, carries_on, greeted, enters_with, login_ends, user_answered, pass_answered, job_answered, stand_answered, judged_reply, answered}
use Rattle.ftp_client_model.specs.Failing.{short, port_short, listening_short, no_port_short, listen_refused_short, opened_short, data_opened_short, unopened_short, data_refused_short, over_short, data_end_short, data_fault_short}
use Rattle.ftp_client_model.specs.Replies.{Verdict, Preliminary, Completion, Intermediate, Negative, Closing, Displaced, verdict_of}
use Rattle.ftp_client_model.specs.View.{View, Job, Idle, Waiting, Doing, Transferring, Told, failed_job, failure_said, fails_by, strange}
use Rattle.ftp_client_model.specs.declared.client.Ending.{Ending}
use Rattle.ftp_client_model.specs.declared.client.Ending.TheVariants as Endings
use Rattle.ftp_client_model.specs.declared.client.Failure.{Failure}
use Rattle.ftp_client_model.specs.declared.client.Failure.TheVariants as Failures
use Rattle.ftp_client_model.specs.declared.client.ClientLink.{ClientLink}
use Rattle.ftp_client_model.specs.declared.client.ClientLink.TheVariants as Data
use Rattle.ftp_client_model.specs.declared.client.Standing.{Standing}
use Rattle.ftp_client_model.specs.declared.client.Standing.TheVariants as Stands

-- ---- a client without an operation

-- what changes nothing of a client without an operation leaves it so
idle_by : (f : Job → View → View) → ((v : View) → f Idle v ≡ v) → (v : View) → v.job ≡ Idle → (f v.job v).job ≡ Idle
idle_by f rests v is = ap (λ job. (f job v).job) is ∙ ap (λ w. w.job) (rests v) ∙ is

-- so does a choice of two such clients
if_idle : (b : Bool) (v w : View) → v.job ≡ Idle → w.job ≡ Idle → (if b then v else w).job ≡ Idle
if_idle true v w one other = one
if_idle false v w one other = other

-- a failure tells nothing where nothing was begun
fails_idle : (standing : Standing) (failure : Failure) (v : View) → v.job ≡ Idle → (fails_by standing failure v).job ≡ Idle
fails_idle Stands.Greeting failure v is = ap (failed_job (failure_said failure)) is
fails_idle Stands.User failure v is = ap (failed_job (failure_said failure)) is
fails_idle Stands.Pass failure v is = ap (failed_job (failure_said failure)) is
fails_idle Stands.Entered failure v is = ap (failed_job (failure_said failure)) is
fails_idle (Stands.Failed before) failure v is = is

strange_idle : (v : View) → v.job ≡ Idle → (strange v).job ≡ Idle
strange_idle v is = fails_idle v.standing Failures.Strange v is

short_idle : (v : View) → v.job ≡ Idle → (short v).job ≡ Idle
short_idle v is = fails_idle v.standing Failures.Memory v is

-- no transfer is carried on
carries_on_idle : (v : View) → v.job ≡ Idle → (carries_on v).job ≡ Idle
carries_on_idle v is =
    let closed = closes_once_given v.job v in
    let aborted = aborts_once_enough closed.job closed in
    idle_by answers_job (λ w. refl) aborted (idle_by aborts_once_enough (λ w. refl) closed (idle_by closes_once_given (λ w. refl) v is))

-- ---- a reply

-- the greeting begins nothing
greeted_idle : (verdict : Verdict) (code : ℕ) (v : View) → v.job ≡ Idle → (greeted verdict code v).job ≡ Idle
greeted_idle Completion code v is = is
greeted_idle Preliminary code v is = if_idle (code == 120) v (strange v) is (strange_idle v is)
greeted_idle Intermediate code v is = strange_idle v is
greeted_idle Negative code v is = strange_idle v is
greeted_idle Closing code v is = strange_idle v is
greeted_idle Displaced code v is = strange_idle v is

-- the end of the login begins what waits, and nothing waits
enters_idle : (v : View) → v.job ≡ Idle → (login_ends v).job ≡ Idle
enters_idle v is = idle_by enters_with (λ w. refl) (record v { standing = Stands.Entered }) is

-- nor does the answer to USER
user_idle : (verdict : Verdict) (v : View) → v.job ≡ Idle → (user_answered verdict v).job ≡ Idle
user_idle Intermediate v is = is
user_idle Completion v is = enters_idle v is
user_idle Negative v is = enters_idle v is
user_idle Preliminary v is = strange_idle v is
user_idle Closing v is = strange_idle v is
user_idle Displaced v is = strange_idle v is

-- nor does the answer to PASS
pass_idle : (verdict : Verdict) (v : View) → v.job ≡ Idle → (pass_answered verdict v).job ≡ Idle
pass_idle Completion v is = enters_idle v is
pass_idle Negative v is = enters_idle v is
pass_idle Intermediate v is = strange_idle v is
pass_idle Preliminary v is = strange_idle v is
pass_idle Closing v is = strange_idle v is
pass_idle Displaced v is = strange_idle v is

-- nor does any reply, wherever the client stands
stand_idle : (standing : Standing) (verdict : Verdict) (code : ℕ) (texts : List Text) (v : View) → v.job ≡ Idle
    → (stand_answered standing verdict code texts v).job ≡ Idle
stand_idle Stands.Greeting verdict code texts v is = greeted_idle verdict code v is
stand_idle Stands.User verdict code texts v is = user_idle verdict v is
stand_idle Stands.Pass verdict code texts v is = pass_idle verdict v is
stand_idle Stands.Entered verdict code texts v is = ap (λ job. (job_answered job verdict code texts v).job) is ∙ strange_idle v is
stand_idle (Stands.Failed failure) verdict code texts v is = is

-- nor does one that is told apart by its code
judged_idle : (verdict : Verdict) (code : ℕ) (texts : List Text) (v : View) → v.job ≡ Idle → (judged_reply verdict code texts v).job ≡ Idle
judged_idle Closing code texts v is = fails_idle v.standing Failures.Lost v is
judged_idle Displaced code texts v is = strange_idle v is
judged_idle Preliminary code texts v is = stand_idle v.standing Preliminary code texts v is
judged_idle Completion code texts v is = stand_idle v.standing Completion code texts v is
judged_idle Intermediate code texts v is = stand_idle v.standing Intermediate code texts v is
judged_idle Negative code texts v is = stand_idle v.standing Negative code texts v is

-- nor does a line
line_idle : (heard : Heard) (v : View) → v.job ≡ Idle → (line_taken heard v).job ≡ Idle
unfolding answered
line_idle (GoesOn gathered) v is = is
line_idle (Says code texts) v is = judged_idle (verdict_of code) code texts (record v { gathered = Between }) is
line_idle (Faulty fault) v is = strange_idle v is

-- nor does what the ear tells
event_idle : (event : NvtEvent) (v : View) → v.job ≡ Idle → (event_taken event v).job ≡ Idle
event_idle (line text) v is = line_idle (line_heard v.gathered text) v is
event_idle too_long v is = strange_idle v is
event_idle (owed answer) v is = is

-- nor do several such events
events_idle : (events : List NvtEvent) (v : View) → v.job ≡ Idle → (events_taken events v).job ≡ Idle
events_idle [] v is = is
events_idle (event ∷ events) v is = events_idle events (event_taken event v) (event_idle event v is)

-- nor do octets of the control connection
hears_idle : (v : View) (octets : List ℕ) → v.job ≡ Idle → (hears v octets).job ≡ Idle
hears_idle v [] is = is
hears_idle v (octet ∷ octets) is =
    hears_idle (hears_octet v octet) octets
    (events_idle ((ear reply_limit).out v.ear octet) (record v { ear = (ear reply_limit).step v.ear octet }) is)

-- ---- the data connection

-- octets of a link that is nobody's are dropped
receives_idle : (v : View) (octets : List ℕ) → v.job ≡ Idle → (receives v octets).job ≡ Idle
receives_idle v [] is = is
receives_idle v (octet ∷ octets) is = receives_idle (receives_octet v octet) octets (idle_by (λ job w. heard_by job octet w) (λ w. refl) v is)

-- a port is told to nobody
listening_rests : (connection : ClientLink) (port : ℕ) (v : View) → listening_by connection Idle port v ≡ v
listening_rests Data.Free port v = refl
listening_rests Data.ListenWanted port v = refl
listening_rests (Data.Listening before) port v = refl
listening_rests (Data.Connecting endpoint) port v = refl
listening_rests (Data.Accepting before) port v = refl
listening_rests Data.Open port v = refl
listening_rests (Data.Over ending) port v = refl

-- an accepted link is carried on by nobody
accepted_idle : (ours : Bool) (v : View) → v.job ≡ Idle → (accepted ours v).job ≡ Idle
accepted_idle true v is = carries_on_idle (record v { connection = Data.Open }) is
accepted_idle false v is = carries_on_idle (record v { connection = Data.Over Endings.Foreign; closing = true }) is

-- an open link is used by nobody
opened_idle : (connection : ClientLink) (host : Host) (v : View) → v.job ≡ Idle → (opened_by connection host v).job ≡ Idle
opened_idle (Data.Connecting endpoint) host v is = idle_by connected (λ w. refl) v is
opened_idle (Data.Accepting port) host v is = accepted_idle (same_host host v.peer) v is
opened_idle Data.Free host v is = is
opened_idle Data.ListenWanted host v is = is
opened_idle (Data.Listening port) host v is = is
opened_idle Data.Open host v is = is
opened_idle (Data.Over ending) host v is = is

-- the end of a link is told to nobody
over_idle : (connection : ClientLink) (ending : Ending) (v : View) → v.job ≡ Idle → (over_by connection ending v).job ≡ Idle
over_idle Data.Open ending v is = carries_on_idle (record v { connection = Data.Over ending }) is
over_idle Data.Free ending v is = is
over_idle Data.ListenWanted ending v is = is
over_idle (Data.Listening port) ending v is = is
over_idle (Data.Connecting endpoint) ending v is = is
over_idle (Data.Accepting port) ending v is = is
over_idle (Data.Over before) ending v is = is

-- ---- short of memory

-- the same calls where a growth is refused: a port
port_short_idle : (connection : ClientLink) (port : ℕ) (v : View) → v.job ≡ Idle → (port_short connection port v).job ≡ Idle
port_short_idle Data.ListenWanted port v is = short_idle (record v { connection = Data.Listening port }) is
port_short_idle Data.Free port v is = is
port_short_idle (Data.Listening before) port v is = is
port_short_idle (Data.Connecting endpoint) port v is = is
port_short_idle (Data.Accepting before) port v is = is
port_short_idle Data.Open port v is = is
port_short_idle (Data.Over ending) port v is = is

-- no port
no_port_short_idle : (connection : ClientLink) (v : View) → v.job ≡ Idle → (no_port_short connection v).job ≡ Idle
no_port_short_idle Data.ListenWanted v is = short_idle v is
no_port_short_idle Data.Free v is = is
no_port_short_idle (Data.Listening port) v is = is
no_port_short_idle (Data.Connecting endpoint) v is = is
no_port_short_idle (Data.Accepting port) v is = is
no_port_short_idle Data.Open v is = is
no_port_short_idle (Data.Over ending) v is = is

-- an open link
opened_short_idle : (connection : ClientLink) (v : View) → v.job ≡ Idle → (opened_short connection v).job ≡ Idle
opened_short_idle (Data.Connecting endpoint) v is = short_idle (record v { connection = Data.Open }) is
opened_short_idle (Data.Accepting port) v is = short_idle (record v { connection = Data.Open }) is
opened_short_idle Data.Free v is = is
opened_short_idle Data.ListenWanted v is = is
opened_short_idle (Data.Listening port) v is = is
opened_short_idle Data.Open v is = is
opened_short_idle (Data.Over ending) v is = is

-- no link
unopened_short_idle : (connection : ClientLink) (v : View) → v.job ≡ Idle → (unopened_short connection v).job ≡ Idle
unopened_short_idle (Data.Connecting endpoint) v is = short_idle v is
unopened_short_idle (Data.Accepting port) v is = short_idle v is
unopened_short_idle Data.Free v is = is
unopened_short_idle Data.ListenWanted v is = is
unopened_short_idle (Data.Listening port) v is = is
unopened_short_idle Data.Open v is = is
unopened_short_idle (Data.Over ending) v is = is

-- the end of a link
over_short_idle : (connection : ClientLink) (v : View) → v.job ≡ Idle → (over_short connection v).job ≡ Idle
over_short_idle Data.Open v is = short_idle (record v { connection = Data.Over Endings.Clean }) is
over_short_idle Data.Free v is = is
over_short_idle Data.ListenWanted v is = is
over_short_idle (Data.Listening port) v is = is
over_short_idle (Data.Connecting endpoint) v is = is
over_short_idle (Data.Accepting port) v is = is
over_short_idle (Data.Over ending) v is = is

-- ---- the law

-- a client without an operation that gets none is busy only where it was
before : (old new : View) → (old.job ≡ Idle → new.job ≡ Idle) → BusyBefore old new
before old new keeps = by old.job refl
  where
    by : (job : Job) → old.job ≡ job → IsTrue (is_busy new) → IsTrue (is_busy old)
    by Idle is busy = absurd (let none : is_busy new ≡ false = ap is_busy_job (keeps is) in cc)
    by (Waiting op) is busy = ap is_busy_job is
    by (Doing op step) is busy = ap is_busy_job is
    by (Transferring op transfer) is busy = ap is_busy_job is
    by (Told answer) is busy = ap is_busy_job is

-- every call
begins_none : (v : View) → OfCalls BusyBefore v
unfolding listening data_opened data_end data_fault control_end gives_data
begins_none v = record {
  reporting = before v (reports v) (idle_by reported_by (λ w. refl) v);
  hearing = λ octets. before v (hears v octets) (hears_idle v octets);
  giving = λ count. before v (gives_control count v) (λ is. is);
  left = before v (control_end v) (fails_idle v.standing Failures.Lost v);
  told_port = λ port. before v (listening port v)
      (λ is. if_idle v.closing v (listening_by v.connection v.job port v) is
      (idle_by (λ job w. listening_by v.connection job port w) (listening_rests v.connection port) v is));
  opened = λ host. before v (data_opened host v) (λ is. if_idle v.closing v (opened_by v.connection host v) is (opened_idle v.connection host v is));
  receiving = λ octets. before v (receives v octets) (receives_idle v octets);
  ended = before v (data_end v) (λ is. if_idle v.closing v (over_by v.connection (ending_of v.job) v) is (over_idle v.connection (ending_of v.job) v is));
  broken = before v (data_fault v) (λ is. if_idle v.closing v (over_by v.connection Endings.Broken v) is (over_idle v.connection Endings.Broken v is));
  carrying = λ count. before v (gives_data count v) (idle_by (λ job w. goes_by count job w) (λ w. refl) v);
  closed = before v (data_closed v) (λ is. is);
}

-- every call in which a growth was refused
begins_none_short : (v : View) → OfShortCalls BusyBefore v
begins_none_short v = record {
  wanting = before v (short v) (short_idle v);
  hearing = λ piece count new heard. before v new (λ is. ap (λ w. w.job) heard.is ∙ short_idle (hears v (take heard.taken piece)) (hears_idle v (take heard.taken piece) is));
  receiving = λ piece count new heard.
      before v new (λ is. ap (λ w. w.job) heard.is ∙ short_idle (receives v (take heard.taken piece)) (receives_idle v (take heard.taken piece) is));
  told_port = λ port. before v (listening_short port v) (λ is. if_idle v.closing v (port_short v.connection port v) is (port_short_idle v.connection port v is));
  no_port = before v (listen_refused_short v) (λ is. if_idle v.closing v (no_port_short v.connection v) is (no_port_short_idle v.connection v is));
  opened = before v (data_opened_short v) (λ is. if_idle v.closing v (opened_short v.connection v) is (opened_short_idle v.connection v is));
  unopened = before v (data_refused_short v) (λ is. if_idle v.closing v (unopened_short v.connection v) is (unopened_short_idle v.connection v is));
  ended = before v (data_end_short v) (λ is. if_idle v.closing v (over_short v.connection v) is (over_short_idle v.connection v is));
  broken = before v (data_fault_short v) (λ is. if_idle v.closing v (over_short v.connection v) is (over_short_idle v.connection v is));
}

-- no port or link is refused where none was asked for
begins_none_refused : (v : View) → LeavesNone v → OfRefusals BusyBefore v
unfolding listen_refused data_refused
begins_none_refused v none = record {
  no_port = before v (listen_refused v)
      (λ is. if_idle v.closing v (no_port_by v.connection v) is (ap (λ connection. (no_port_by connection v).job) (free is) ∙ is));
  unopened = before v (data_refused v)
      (λ is. if_idle v.closing v (unopened_by v.connection v) is (ap (λ connection. (unopened_by connection v).job) (free is) ∙ is));
}
  where
    free : v.job ≡ Idle → v.connection ≡ Data.Free
    free is = none (ap is_over is)

pub only_begins_busy : OnlyBeginsBusy
only_begins_busy v = record { calls = begins_none v; short_calls = begins_none_short v; refusals = begins_none_refused v }
