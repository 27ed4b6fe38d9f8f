-- No call of a client leaves anything of an operation that is over.
use Rattle.std.proofs.Common.{◌≡◌, ℕ, List, [], ◌∷◌, Bool, true, false, ◌&&◌, Option, Some, None, refl, sym, ap, subst, ◌∙◌, take}
use Rattle.ftp_operation.specs.Answer.{Unopened}
use Rattle.ftp_operation.specs.Operation.{can_be_sent}
use Rattle.ftp_operation.specs.declared.op.Op.{Op}
use Rattle.ftp_endpoint.specs.declared.host.Host.{Host}
use Rattle.ftp_ends.specs.Link.{same_host}
use Rattle.ftp_client_model.specs.Busy.{OfCalls, OfRefusals, OfShortCalls, OfBeginnings, LeavesNone, LeavesNoneThen, BeginsLeft, EachStaysLeft, is_over}
use Rattle.ftp_client_model.specs.Calls.{is_busy, is_busy_job, is_sound, started_by, unsendable_by, begun, starts, uploads, reported_by, hears, control_end, listening_by, listening, no_port_by, listen_refused, connected, accepted, opened_by, data_opened, unopened_by, data_refused, ending_of, over_by, data_end, data_fault, heard_flow, with_flow, heard_by, receives_octet, receives, went, goes_by, gives_data}
use Rattle.ftp_client_model.specs.Dialogue.{aborts_once_enough}
use Rattle.ftp_client_model.specs.Failing.{short, port_short, no_port_short, opened_short, unopened_short, over_short, begun_short}
use Rattle.ftp_client_model.specs.Tries.{Run, run_of, first_try}
use Rattle.ftp_client_model.specs.View.{View, Job, Idle, Waiting, Doing, Transferring, Told, Transfer, Flow}
use Rattle.ftp_client_model.specs.declared.client.Ending.{Ending}
use Rattle.ftp_client_model.specs.declared.client.Ending.TheVariants as Endings
use Rattle.ftp_client_model.specs.declared.client.Failure.TheVariants as Failures
use Rattle.ftp_client_model.specs.declared.client.ClientLink.{ClientLink}
use Rattle.ftp_client_model.specs.declared.client.ClientLink.TheVariants as Data
use Rattle.ftp_client_model.specs.declared.client.Standing.{Standing}
use Rattle.ftp_client_model.specs.declared.client.Standing.TheVariants as Stands
use Rattle.ftp_client_model.specs.declared.client.Step.{Step}
use Rattle.ftp_client_model.specs.declared.client.Step.TheVariants as Steps
use Rattle.ftp_client_model.proofs.LeavesLemmas.{under_way, holds_some, if_left, fails_left, short_left, goes_on_left, begins_left, finishes_left, aborts_once_under, carries_on_left, hears_left}

-- ---- the data connection

-- an octet of a transfer leaves it under way
with_flow_left : (op : Op (List ℕ)) (transfer : Transfer) (flow : Flow) (v : View) → LeavesNone (with_flow op transfer flow v)
with_flow_left op transfer flow v =
    let heard : View = record v { job = Transferring op (record transfer { flow = flow }) } in
    under_way (aborts_once_enough heard.job heard) (aborts_once_under heard.job heard refl)

-- of what is under way
heard_left : (job : Job) (octet : ℕ) (v : View) → LeavesNone v → LeavesNone (heard_by job octet v)
heard_left Idle octet v left = left
heard_left (Waiting op) octet v left = left
heard_left (Doing op step) octet v left = left
heard_left (Transferring op transfer) octet v left = with_flow_left op transfer (heard_flow transfer.abort transfer.flow octet) v
heard_left (Told answer) octet v left = left

-- octets of the data connection
receives_left : (v : View) (octets : List ℕ) → LeavesNone v → LeavesNone (receives v octets)
receives_left v [] left = left
receives_left v (octet ∷ octets) left = receives_left (receives_octet v octet) octets (heard_left v.job octet v left)

-- octets that go out
goes_left : (count : ℕ) (job : Job) (v : View) → LeavesNone v → LeavesNone (goes_by count job v)
goes_left count Idle v left = left
goes_left count (Waiting op) v left = left
goes_left count (Doing op step) v left = left
goes_left count (Transferring op transfer) v left = carries_on_left (record v { job = Transferring op (record transfer { flow = went count transfer.flow }) }) refl
goes_left count (Told answer) v left = left

-- a port goes to the operation that waits for it
listening_step_left : (step : Step) (op : Op (List ℕ)) (port : ℕ) (v : View) → LeavesNone v → LeavesNone (listening_by Data.ListenWanted (Doing op step) port v)
listening_step_left Steps.Kind op port v left = left
listening_step_left Steps.Structure op port v left = left
listening_step_left Steps.Mode op port v left = left
listening_step_left Steps.Listen op port v left = goes_on_left op Steps.Listen (record v { connection = Data.Listening port })
listening_step_left Steps.Port op port v left = left
listening_step_left Steps.Passive op port v left = left
listening_step_left Steps.Connect op port v left = left
listening_step_left Steps.Restart op port v left = left
listening_step_left Steps.Source op port v left = left
listening_step_left Steps.Last op port v left = left

-- or to nobody
listening_left : (connection : ClientLink) (job : Job) (port : ℕ) (v : View) → LeavesNone v → LeavesNone (listening_by connection job port v)
listening_left Data.ListenWanted Idle port v left = left
listening_left Data.ListenWanted (Waiting op) port v left = left
listening_left Data.ListenWanted (Doing op step) port v left = listening_step_left step op port v left
listening_left Data.ListenWanted (Transferring op transfer) port v left = left
listening_left Data.ListenWanted (Told answer) port v left = left
listening_left Data.Free job port v left = left
listening_left (Data.Listening other) job port v left = left
listening_left (Data.Connecting endpoint) job port v left = left
listening_left (Data.Accepting other) job port v left = left
listening_left Data.Open job port v left = left
listening_left (Data.Over before) job port v left = left

-- where there is none the operation is answered
no_port_left : (connection : ClientLink) (v : View) → LeavesNone v → LeavesNone (no_port_by connection v)
no_port_left Data.Free v left = left
no_port_left Data.ListenWanted v left = finishes_left Unopened v
no_port_left (Data.Listening other) v left = left
no_port_left (Data.Connecting endpoint) v left = left
no_port_left (Data.Accepting other) v left = left
no_port_left Data.Open v left = left
no_port_left (Data.Over before) v left = left

-- a link goes to the operation that dialled it
connected_step_left : (step : Step) (op : Op (List ℕ)) (v : View) → LeavesNone v → LeavesNone (connected (Doing op step) v)
connected_step_left Steps.Kind op v left = left
connected_step_left Steps.Structure op v left = left
connected_step_left Steps.Mode op v left = left
connected_step_left Steps.Listen op v left = left
connected_step_left Steps.Port op v left = left
connected_step_left Steps.Passive op v left = left
connected_step_left Steps.Connect op v left = goes_on_left op Steps.Connect (record v { connection = Data.Open })
connected_step_left Steps.Restart op v left = left
connected_step_left Steps.Source op v left = left
connected_step_left Steps.Last op v left = left

-- or to nobody
connected_left : (job : Job) (v : View) → LeavesNone v → LeavesNone (connected job v)
connected_left Idle v left = left
connected_left (Waiting op) v left = left
connected_left (Doing op step) v left = connected_step_left step op v left
connected_left (Transferring op transfer) v left = left
connected_left (Told answer) v left = left

-- or to the transfer that accepts it
accepted_left : (ours : Bool) (v : View) → is_over v.job ≡ false → LeavesNone (accepted ours v)
accepted_left true v under = carries_on_left (record v { connection = Data.Open }) under
accepted_left false v under = carries_on_left (record v { connection = Data.Over Endings.Foreign; closing = true }) under

-- by what the data connection is
opened_left : (connection : ClientLink) (host : Host) (v : View) → v.connection ≡ connection → LeavesNone v → LeavesNone (opened_by connection host v)
opened_left Data.Free host v is left = left
opened_left Data.ListenWanted host v is left = left
opened_left (Data.Listening other) host v is left = left
opened_left (Data.Connecting endpoint) host v is left = connected_left v.job v left
opened_left (Data.Accepting other) host v is left = accepted_left (same_host host v.peer) v (holds_some v (Data.Accepting other) is (λ e. absurd (cc)) left)
opened_left Data.Open host v is left = left
opened_left (Data.Over before) host v is left = left

-- where none is had
unopened_left : (connection : ClientLink) (v : View) → v.connection ≡ connection → LeavesNone v → LeavesNone (unopened_by connection v)
unopened_left Data.Free v is left = left
unopened_left Data.ListenWanted v is left = left
unopened_left (Data.Listening other) v is left = left
unopened_left (Data.Connecting endpoint) v is left = finishes_left Unopened v
unopened_left (Data.Accepting other) v is left =
    carries_on_left (record v { connection = Data.Over Endings.Broken; closing = true }) (holds_some v (Data.Accepting other) is (λ e. absurd (cc)) left)
unopened_left Data.Open v is left = left
unopened_left (Data.Over before) v is left = left

-- the end of a link
over_left : (connection : ClientLink) (ending : Ending) (v : View) → v.connection ≡ connection → LeavesNone v → LeavesNone (over_by connection ending v)
over_left Data.Free ending v is left = left
over_left Data.ListenWanted ending v is left = left
over_left (Data.Listening other) ending v is left = left
over_left (Data.Connecting endpoint) ending v is left = left
over_left (Data.Accepting other) ending v is left = left
over_left Data.Open ending v is left = carries_on_left (record v { connection = Data.Over ending }) (holds_some v Data.Open is (λ e. absurd (cc)) left)
over_left (Data.Over before) ending v is left = left

-- ---- short of memory

-- a port
port_short_left : (connection : ClientLink) (port : ℕ) (v : View) → v.connection ≡ connection → LeavesNone v → LeavesNone (port_short connection port v)
port_short_left Data.Free port v is left = left
port_short_left Data.ListenWanted port v is left =
    short_left (record v { connection = Data.Listening port }) (under_way (record v { connection = Data.Listening port }) (holds_some v Data.ListenWanted is (λ e. absurd (cc)) left))
port_short_left (Data.Listening other) port v is left = left
port_short_left (Data.Connecting endpoint) port v is left = left
port_short_left (Data.Accepting other) port v is left = left
port_short_left Data.Open port v is left = left
port_short_left (Data.Over before) port v is left = left

-- no port
no_port_short_left : (connection : ClientLink) (v : View) → v.connection ≡ connection → LeavesNone v → LeavesNone (no_port_short connection v)
no_port_short_left Data.Free v is left = left
no_port_short_left Data.ListenWanted v is left = short_left v left
no_port_short_left (Data.Listening other) v is left = left
no_port_short_left (Data.Connecting endpoint) v is left = left
no_port_short_left (Data.Accepting other) v is left = left
no_port_short_left Data.Open v is left = left
no_port_short_left (Data.Over before) v is left = left

-- an open link
opened_short_left : (connection : ClientLink) (v : View) → v.connection ≡ connection → LeavesNone v → LeavesNone (opened_short connection v)
opened_short_left Data.Free v is left = left
opened_short_left Data.ListenWanted v is left = left
opened_short_left (Data.Listening other) v is left = left
opened_short_left (Data.Connecting endpoint) v is left =
    short_left (record v { connection = Data.Open }) (under_way (record v { connection = Data.Open }) (holds_some v (Data.Connecting endpoint) is (λ e. absurd (cc)) left))
opened_short_left (Data.Accepting other) v is left =
    short_left (record v { connection = Data.Open }) (under_way (record v { connection = Data.Open }) (holds_some v (Data.Accepting other) is (λ e. absurd (cc)) left))
opened_short_left Data.Open v is left = left
opened_short_left (Data.Over before) v is left = left

-- no link
unopened_short_left : (connection : ClientLink) (v : View) → v.connection ≡ connection → LeavesNone v → LeavesNone (unopened_short connection v)
unopened_short_left Data.Free v is left = left
unopened_short_left Data.ListenWanted v is left = left
unopened_short_left (Data.Listening other) v is left = left
unopened_short_left (Data.Connecting endpoint) v is left = short_left v left
unopened_short_left (Data.Accepting other) v is left = short_left v left
unopened_short_left Data.Open v is left = left
unopened_short_left (Data.Over before) v is left = left

-- the end of a link
over_short_left : (connection : ClientLink) (v : View) → v.connection ≡ connection → LeavesNone v → LeavesNone (over_short connection v)
over_short_left Data.Free v is left = left
over_short_left Data.ListenWanted v is left = left
over_short_left (Data.Listening other) v is left = left
over_short_left (Data.Connecting endpoint) v is left = left
over_short_left (Data.Accepting other) v is left = left
over_short_left Data.Open v is left =
    short_left (record v { connection = Data.Over Endings.Clean }) (under_way (record v { connection = Data.Over Endings.Clean }) (holds_some v Data.Open is (λ e. absurd (cc)) left))
over_short_left (Data.Over before) v is left = left

-- ---- what begins

-- an operation that can be sent, where nothing is left
started_left : (standing : Standing) (op : Op (List ℕ)) (v : View) → v.connection ≡ Data.Free → LeavesNone (started_by standing op v)
started_left Stands.Entered op v free = begins_left op v
started_left (Stands.Failed failure) op v free = λ over. free
started_left Stands.Greeting op v free = λ over. free
started_left Stands.User op v free = λ over. free
started_left Stands.Pass op v free = λ over. free

-- one that can't be
unsendable_left : (standing : Standing) (v : View) → v.connection ≡ Data.Free → LeavesNone (unsendable_by standing v)
unsendable_left (Stands.Failed failure) v free = λ over. free
unsendable_left Stands.Entered v free = λ over. free
unsendable_left Stands.Greeting v free = λ over. free
unsendable_left Stands.User v free = λ over. free
unsendable_left Stands.Pass v free = λ over. free

-- either
begun_left : (run : Option Run) (op : Op (List ℕ)) (v : View) → v.connection ≡ Data.Free → LeavesNone (begun run op v)
begun_left run op v free =
    if_left (can_be_sent op) (started_by v.standing op (record v { run = run })) (unsendable_by v.standing v)
    (started_left v.standing op (record v { run = run }) free) (unsendable_left v.standing v free)

-- where a growth was refused
begun_short_left : (run : Option Run) (op : Op (List ℕ)) (v : View) → v.connection ≡ Data.Free → LeavesNone (begun_short run op v)
begun_short_left run op v free =
    if_left (can_be_sent op && is_sound v.standing) (short (record v { job = Waiting op; run = run })) (begun run op v)
    (short_left (record v { job = Waiting op; run = run }) (under_way (record v { job = Waiting op; run = run }) refl)) (begun_left run op v free)

-- a client that isn't busy has no data connection
not_busy : (v : View) → LeavesNone v → is_busy v ≡ false → v.connection ≡ Data.Free
not_busy v left idle = by v.job refl
  where
    by : (job : Job) → v.job ≡ job → v.connection ≡ Data.Free
    by Idle is = left (ap is_over is)
    by (Waiting op) is = absurd (let e : true ≡ false = sym (ap is_busy_job is) ∙ idle in cc)
    by (Doing op step) is = absurd (let e : true ≡ false = sym (ap is_busy_job is) ∙ idle in cc)
    by (Transferring op transfer) is = absurd (let e : true ≡ false = sym (ap is_busy_job is) ∙ idle in cc)
    by (Told answer) is = left (ap is_over is)

-- a report that is taken leaves what was left
reported_left : (job : Job) (v : View) → v.job ≡ job → LeavesNone v → LeavesNone (reported_by job v)
reported_left (Told answer) v is left = λ over. left (ap is_over is)
reported_left Idle v is left = left
reported_left (Waiting op) v is left = left
reported_left (Doing op step) v is left = left
reported_left (Transferring op transfer) v is left = left

-- ---- the law

-- each call that begins nothing
calls_left : (v : View) → LeavesNone v → OfCalls LeavesNoneThen v
unfolding listening data_opened data_end data_fault control_end gives_data
calls_left v left = record {
  reporting = reported_left v.job v refl left;
  hearing = λ octets. hears_left v octets left;
  giving = λ count. left;
  left = fails_left v.standing Failures.Lost v left;
  told_port = λ port. if_left v.closing v (listening_by v.connection v.job port v) left (listening_left v.connection v.job port v left);
  opened = λ host. if_left v.closing v (opened_by v.connection host v) left (opened_left v.connection host v refl left);
  receiving = λ octets. receives_left v octets left;
  ended = if_left v.closing v (over_by v.connection (ending_of v.job) v) left (over_left v.connection (ending_of v.job) v refl left);
  broken = if_left v.closing v (over_by v.connection Endings.Broken v) left (over_left v.connection Endings.Broken v refl left);
  carrying = λ count. goes_left count v.job v left;
  closed = left;
}

-- the calls that tell that nothing is had
refusals_left : (v : View) → LeavesNone v → OfRefusals LeavesNoneThen v
unfolding listen_refused data_refused
refusals_left v left = record {
  no_port = if_left v.closing v (no_port_by v.connection v) left (no_port_left v.connection v left);
  unopened = if_left v.closing v (unopened_by v.connection v) left (unopened_left v.connection v refl left);
}

-- each call in which a growth was refused
short_calls_left : (v : View) → LeavesNone v → OfShortCalls LeavesNoneThen v
short_calls_left v left = record {
  wanting = short_left v left;
  hearing = λ piece count new heard. subst LeavesNone (sym heard.is) (short_left (hears v (take heard.taken piece)) (hears_left v (take heard.taken piece) left));
  receiving = λ piece count new heard.
      subst LeavesNone (sym heard.is) (short_left (receives v (take heard.taken piece)) (receives_left v (take heard.taken piece) left));
  told_port = λ port. if_left v.closing v (port_short v.connection port v) left (port_short_left v.connection port v refl left);
  no_port = if_left v.closing v (no_port_short v.connection v) left (no_port_short_left v.connection v refl left);
  opened = if_left v.closing v (opened_short v.connection v) left (opened_short_left v.connection v refl left);
  unopened = if_left v.closing v (unopened_short v.connection v) left (unopened_short_left v.connection v refl left);
  ended = if_left v.closing v (over_short v.connection v) left (over_short_left v.connection v refl left);
  broken = if_left v.closing v (over_short v.connection v) left (over_short_left v.connection v refl left);
}

-- the calls that begin
beginnings_left : (v : View) → v.connection ≡ Data.Free → OfBeginnings LeavesNoneThen v
unfolding starts uploads
beginnings_left v free = record {
  starting = λ op. begun_left None op v free;
  uploading = λ upload. begun_left (Some (run_of upload)) (first_try upload) v free;
  starting_short = λ op. begun_short_left None op v free;
  uploading_short = λ upload. begun_short_left (Some (run_of upload)) (first_try upload) v free;
}

pub each_stays_left : EachStaysLeft
each_stays_left v left = record {
  calls = calls_left v left;
  refusals = refusals_left v left;
  short_calls = short_calls_left v left;
  beginnings = λ idle. beginnings_left v (not_busy v left idle);
}

pub begins_so : BeginsLeft
begins_so user pass here peer = λ over. refl
