-- What each step of a client's dialogue keeps: while a close is wanted nothing else of the link stands; a failure stays; and the ear is where it was.
use Rattle.std.proofs.Common.{◌≡◌, ℕ, List, [], ◌∷◌, Bool, true, false, ◌&&◌, ◌==◌, Option, Some, None, refl, ap, ◌∙◌}
use Rattle.std.specs.Prelude.{if◌then◌else◌}
use Rattle.std.specs.Option.{option_map}
use Rattle.std.proofs.lemmas.Bool.{cond_both}
use Rattle.ftp_command.specs.declared.command.Command.{Command}
use Rattle.ftp_nvt.specs.Lines.{NvtEvent, line, too_long, owed}
use Rattle.ftp_operation.specs.Answer.{Said, Refused, Foreign, Unopened}
use Rattle.ftp_operation.specs.declared.op.Op.{Op}
use Rattle.ftp_endpoint.specs.declared.endpoint.Endpoint.{Endpoint}
use Rattle.ftp_endpoint.specs.declared.host.Host.{Host}
use Rattle.ftp_reply.specs.Lines.{Text, joined}
use Rattle.ftp_ends.specs.Ear.{ear}
use Rattle.ftp_ends.specs.Link.{same_host}
use Rattle.ftp_operation.specs.Operation.{can_be_sent}
use Rattle.ftp_client_model.specs.Tries.{OverBreaks, Run, first_try, run_of}
use Rattle.ftp_client_model.specs.Calls.{begun, reported_by, reports, started_by, starts, unsendable_by, uploads, hears_octet, is_sound, heard_flow, receives_octet, receives, reply_limit, line_taken, event_taken, events_taken, unless_closing, listening_by, listening, connected, accepted, opened_by, data_opened, unopened_by, data_refused, ending_of, over_by, data_end, data_fault, heard_by, went, goes_by, gives_data, control_end}
use Rattle.ftp_client_model.specs.Dialogue.{sends_if, last_job, placed, goes_on, next_job, finishes_by, finishes_read, is_to_abort, sends_abort, aborts_once_enough, abort_answered, begins, finishes, greeted, enters_with, login_ends, user_answered, pass_answered, set_accepted, dials, endpoint_named, port_named, passive_named, step_done, intermediate, awaits_reply, step_answered, answer_in, judged, answers_by, answers_job, closes_once_given_by, closes_once_given, carries_on, with_reply, awaited, transfer_opened, marked_flow, noted, unless_open, before_opening, behind_opening, transfer_answered, job_answered, stand_answered, judged_reply, answered, closes, has_begun, is_given}
use Rattle.ftp_client_model.specs.Octets.{flow_of}
use Rattle.ftp_client_model.specs.Plan.{asked_settings, command_of, first_step, next_step, settings_behind as set_by, is_extended}
use Rattle.ftp_client_model.specs.Replies.{Verdict, Preliminary, Completion, Intermediate, Negative, Closing, Displaced, verdict_of}
use Rattle.ftp_client_model.specs.Tries.{run_at}
use Rattle.ftp_reply.specs.Reader.{Heard, GoesOn, Says, Faulty, line_heard, Between}
use Rattle.ftp_reply.specs.Values.{passive_value, extended_value, mark_value}
use Rattle.ftp_client_model.specs.View.{View, Job, Waiting, Doing, Transferring, Told, Transfer, Flow, strange, dropped, fails_by}
use Rattle.ftp_client_model.specs.declared.client.Abort.{Abort}
use Rattle.ftp_client_model.specs.declared.client.Abort.TheVariants as Aborts
use Rattle.ftp_client_model.specs.declared.client.Ending.{Ending}
use Rattle.ftp_client_model.specs.declared.client.Ending.TheVariants as Endings
use Rattle.ftp_client_model.specs.declared.client.Failure.{Failure}
use Rattle.ftp_client_model.specs.declared.client.Failure.TheVariants as Failures
use Rattle.ftp_client_model.specs.declared.client.ClientLink.{ClientLink}
use Rattle.ftp_client_model.specs.declared.client.ClientLink.TheVariants as Data
use Rattle.ftp_client_model.specs.declared.client.Replied.{Replied}
use Rattle.ftp_client_model.specs.declared.client.Replied.TheVariants as Replies
use Rattle.ftp_client_model.specs.declared.client.Standing.{Standing}
use Rattle.ftp_client_model.specs.declared.client.Standing.TheVariants as Stands
use Rattle.ftp_client_model.specs.declared.client.Step.{Step}
use Rattle.ftp_client_model.specs.declared.client.Step.TheVariants as Steps
use Rattle.laws_settling.specs.Steady.{NearIsApart}
use Rattle.ftp_client_model.proofs.ClientCalls.{stands_awaited}

-- the client stays apart; and where it still hears, it did before, and its ear is where it was
pub record Keeps (old new : View) : Type 0 where
  pub apart : NearIsApart old → NearIsApart new
  pub sound : is_sound new.standing ≡ true → (is_sound old.standing ≡ true) × (new.ear ≡ old.ear)

-- nothing has changed
pub same : (v : View) → Keeps v v
same v = record { apart = λ a. a; sound = λ s. (s, refl) }

-- a failure
fails_keep : (standing : Standing) (failure : Failure) (old v : View) → Keeps old v → Keeps old (fails_by standing failure v)
fails_keep (Stands.Failed before) failure old v k = k
fails_keep standing failure old v k = record { apart = λ a is. refl; sound = λ s. absurd (cc) }

-- a reply that fits nowhere
strange_keep : (old v : View) → Keeps old v → Keeps old (strange v)
strange_keep old v k = fails_keep v.standing Failures.Strange old v k

-- one of two
if_keeps : (b : Bool) (old v w : View) → Keeps old v → Keeps old w → Keeps old (if b then v else w)
if_keeps true old v w k l = k
if_keeps false old v w k l = l

-- ---- a step begins

-- a command that is sent, if there is one
sends_if_keep : (command : Option (Command (List ℕ))) (old v : View) → Keeps old v → Keeps old (sends_if command v)
sends_if_keep None old v k = k
sends_if_keep (Some command) old v k = record { apart = k.apart; sound = k.sound }

-- a step that sends
step_keep : (op : Op (List ℕ)) (step : Step) (job : Job) (old v : View) → Keeps old v → Keeps old (sends_if (command_of v op step) (record v { job = job }))
step_keep op step job old v k = sends_if_keep (command_of v op step) old (record v { job = job }) (record { apart = k.apart; sound = k.sound })

-- each step, as it begins
placed_keep : (op : Op (List ℕ)) (step : Step) (old v : View) → Keeps old v → Keeps old (placed op step v)
placed_keep op Steps.Kind old v k = step_keep op Steps.Kind (Doing op Steps.Kind) old v k
placed_keep op Steps.Structure old v k = step_keep op Steps.Structure (Doing op Steps.Structure) old v k
placed_keep op Steps.Mode old v k = step_keep op Steps.Mode (Doing op Steps.Mode) old v k
placed_keep op Steps.Port old v k = step_keep op Steps.Port (Doing op Steps.Port) old v k
placed_keep op Steps.Passive old v k = step_keep op Steps.Passive (Doing op Steps.Passive) old v k
placed_keep op Steps.Connect old v k = step_keep op Steps.Connect (Doing op Steps.Connect) old v k
placed_keep op Steps.Restart old v k = step_keep op Steps.Restart (Doing op Steps.Restart) old v k
placed_keep op Steps.Source old v k = step_keep op Steps.Source (Doing op Steps.Source) old v k
placed_keep op Steps.Listen old v k = record { apart = λ a is. refl; sound = k.sound }
placed_keep op Steps.Last old v k = step_keep op Steps.Last (last_job op (flow_of op)) old v k

-- an operation begins
pub begins_keep : (op : Op (List ℕ)) (old v : View) → Keeps old v → Keeps old (begins op v)
begins_keep op old v k = placed_keep op (first_step v.settings op) old v k

-- the next step begins
goes_on_keep : (op : Op (List ℕ)) (step : Step) (old v : View) → Keeps old v → Keeps old (goes_on op step v)
goes_on_keep op step old v k = placed_keep op (next_step v.settings op step) old v k

-- an operation ends, and the next of a run begins if there is one
finishes_by_keep : (next : Option (Op (List ℕ))) (answer : Said) (old v : View) → Keeps old v → Keeps old (finishes_by next answer v)
finishes_by_keep None answer old v k = record { apart = λ a is. refl; sound = k.sound }
finishes_by_keep (Some op) answer old v k = begins_keep op old (record (dropped v) { run = option_map (run_at op) v.run }) (record { apart = λ a is. refl; sound = k.sound })

-- an operation ends
finishes_keep : (answer : Said) (old v : View) → Keeps old v → Keeps old (finishes answer v)
finishes_keep answer old v k = finishes_by_keep (next_job v.run v.job answer) answer old v k

-- an operation ends with an answer that was read, or the reply is strange
finishes_read_keep : (answer : Option Said) (old v : View) → Keeps old v → Keeps old (finishes_read answer v)
finishes_read_keep None old v k = strange_keep old v k
finishes_read_keep (Some answer) old v k = finishes_keep answer old v k

-- ---- the login

-- a reply to no command: the greeting
greeted_keep : (verdict : Verdict) (code : ℕ) (old v : View) → v.standing ≡ Stands.Greeting → Keeps old v → Keeps old (greeted verdict code v)
greeted_keep Completion code old v is k = record { apart = k.apart; sound = λ s. k.sound (ap is_sound is) }
greeted_keep Preliminary code old v is k = if_keeps (code == 120) old v (strange v) k (strange_keep old v k)
greeted_keep verdict code old v is k = strange_keep old v k

-- an operation that waited for the login begins
enters_with_keep : (job : Job) (old v : View) → Keeps old v → Keeps old (enters_with job v)
enters_with_keep (Waiting op) old v k = begins_keep op old v k
enters_with_keep job old v k = k

-- the login ends
enters_keep : (old v : View) → is_sound v.standing ≡ true → Keeps old v → Keeps old (login_ends v)
enters_keep old v is k = enters_with_keep v.job old (record v { standing = Stands.Entered }) (record { apart = k.apart; sound = λ s. k.sound is })

-- a reply to USER
user_keep : (verdict : Verdict) (old v : View) → v.standing ≡ Stands.User → Keeps old v → Keeps old (user_answered verdict v)
user_keep Intermediate old v is k = record { apart = k.apart; sound = λ s. k.sound (ap is_sound is) }
user_keep Completion old v is k = enters_keep old v (ap is_sound is) k
user_keep Negative old v is k = enters_keep old v (ap is_sound is) k
user_keep verdict old v is k = strange_keep old v k

-- a reply to PASS
pass_keep : (verdict : Verdict) (old v : View) → v.standing ≡ Stands.Pass → Keeps old v → Keeps old (pass_answered verdict v)
pass_keep Completion old v is k = enters_keep old v (ap is_sound is) k
pass_keep Negative old v is k = enters_keep old v (ap is_sound is) k
pass_keep verdict old v is k = strange_keep old v k

-- ---- a step

-- an endpoint is to be connected to
dials_keep : (op : Op (List ℕ)) (endpoint : Endpoint) (old v : View) → Keeps old v → Keeps old (dials op endpoint v)
dials_keep op endpoint old v k = goes_on_keep op Steps.Passive old (record v { connection = Data.Connecting endpoint }) (record { apart = λ a is. refl; sound = k.sound })

-- a reply names an endpoint
named_keep : (endpoint : Option Endpoint) (op : Op (List ℕ)) (old v : View) → Keeps old v → Keeps old (endpoint_named endpoint op v)
named_keep None op old v k = strange_keep old v k
named_keep (Some endpoint) op old v k =
    if_keeps (same_host endpoint.host v.peer) old (dials op endpoint v) (finishes Foreign v) (dials_keep op endpoint old v k) (finishes_keep Foreign old v k)

-- a reply names a port
port_named_keep : (port : Option ℕ) (op : Op (List ℕ)) (old v : View) → Keeps old v → Keeps old (port_named port op v)
port_named_keep None op old v k = strange_keep old v k
port_named_keep (Some port) op old v k = dials_keep op (record { host = v.peer; port = port }) old v k

-- a reply to PASV or EPSV
passive_keep : (extended : Bool) (op : Op (List ℕ)) (text : Text) (old v : View) → Keeps old v → Keeps old (passive_named extended op text v)
passive_keep true op text old v k = port_named_keep (extended_value text) op old v k
passive_keep false op text old v k = named_keep (passive_value text) op old v k

-- a setting was taken
set_keep : (op : Op (List ℕ)) (step : Step) (old v : View) → Keeps old v → Keeps old (set_accepted op step v)
set_keep op step old v k = goes_on_keep op step old (record v { settings = set_by step v.settings (asked_settings op) }) (record { apart = k.apart; sound = k.sound })

-- a step is done
done_keep : (op : Op (List ℕ)) (step : Step) (texts : List Text) (old v : View) → Keeps old v → Keeps old (step_done op step texts v)
done_keep op Steps.Port texts old v k = goes_on_keep op Steps.Port old v k
done_keep op Steps.Passive texts old v k = passive_keep (is_extended v op) op (joined texts) old v k
done_keep op Steps.Last texts old v k = finishes_read_keep (answer_in op texts) old v k
done_keep op Steps.Kind texts old v k = set_keep op Steps.Kind old v k
done_keep op Steps.Structure texts old v k = set_keep op Steps.Structure old v k
done_keep op Steps.Mode texts old v k = set_keep op Steps.Mode old v k
done_keep op step texts old v k = strange_keep old v k

-- a step wants another command
intermediate_keep : (op : Op (List ℕ)) (step : Step) (old v : View) → Keeps old v → Keeps old (intermediate op step v)
intermediate_keep op Steps.Restart old v k = goes_on_keep op Steps.Restart old v k
intermediate_keep op Steps.Source old v k = goes_on_keep op Steps.Source old v k
intermediate_keep op step old v k = strange_keep old v k

-- a reply to a step
step_answered_keep : (op : Op (List ℕ)) (step : Step) (verdict : Verdict) (code : ℕ) (texts : List Text) (old v : View) → Keeps old v → Keeps old (step_answered op step verdict code texts v)
step_answered_keep op step Completion code texts old v k = done_keep op step texts old v k
step_answered_keep op step Intermediate code texts old v k = intermediate_keep op step old v k
step_answered_keep op step Negative code texts old v k =
    if_keeps (awaits_reply step) old (finishes (Refused code) v) (strange v) (finishes_keep (Refused code) old v k) (strange_keep old v k)
step_answered_keep op step verdict code texts old v k = strange_keep old v k

-- ---- a transfer

-- the answer of a transfer, once its reply and its end have come
answers_by_keep : (replied : Replied) (abort : Abort) (connection : ClientLink) (op : Op (List ℕ)) (flow : Flow) (old v : View) → Keeps old v → Keeps old (answers_by replied abort connection op flow v)
answers_by_keep (Replies.Final code) Aborts.Unsent (Data.Over ending) op flow old v k = finishes_read_keep (judged ending Aborts.Unsent code op flow) old v k
answers_by_keep (Replies.Final code) Aborts.Answered (Data.Over ending) op flow old v k = finishes_read_keep (judged ending Aborts.Answered code op flow) old v k
answers_by_keep replied abort connection op flow old v k = k

-- the same, of whatever goes on
answers_job_keep : (job : Job) (old v : View) → Keeps old v → Keeps old (answers_job job v)
answers_job_keep (Transferring op transfer) old v k = answers_by_keep transfer.replied transfer.abort v.connection op transfer.flow old v k
answers_job_keep job old v k = k

-- a close is wanted
closes_keep : (old v : View) → Keeps old v → Keeps old (closes v)
closes_keep old v k = record { apart = λ a is. refl; sound = k.sound }

-- a close, once all is given
closes_by_keep : (given : Bool) (connection : ClientLink) (old v : View) → Keeps old v → Keeps old (closes_once_given_by given connection v)
closes_by_keep true Data.Open old v k = closes_keep old v k
closes_by_keep given connection old v k = k

-- the same, of whatever goes on
closes_once_keep : (job : Job) (old v : View) → Keeps old v → Keeps old (closes_once_given job v)
closes_once_keep (Transferring op transfer) old v k = closes_by_keep (has_begun transfer.replied && is_given transfer.flow) v.connection old v k
closes_once_keep job old v k = k

-- ABOR, once a Peek has enough
aborts_once_keep : (job : Job) (old v : View) → Keeps old v → Keeps old (aborts_once_enough job v)
aborts_once_keep (Transferring op transfer) old v k =
    if_keeps (is_to_abort v.connection op transfer) old (sends_abort op transfer v) v (record { apart = k.apart; sound = k.sound }) k
aborts_once_keep job old v k = k

-- all three, which follow each event of a transfer
pub carries_on_keep : (old v : View) → Keeps old v → Keeps old (carries_on v)
carries_on_keep old v k =
    let closed = closes_once_given v.job v in
    let aborted = aborts_once_enough closed.job closed in
    answers_job_keep aborted.job old aborted (aborts_once_keep closed.job old closed (closes_once_keep v.job old v k))

-- a reply is noted of a transfer
reply_keep : (replied : Replied) (op : Op (List ℕ)) (transfer : Transfer) (old v : View) → Keeps old v → Keeps old (with_reply replied op transfer v)
reply_keep replied op transfer old v k = carries_on_keep old (record v { job = Transferring op (record transfer { replied = replied }) }) (record { apart = k.apart; sound = k.sound })

-- a port that was named awaits its link
awaited_keep : (old v : View) → Keeps old v → Keeps old (record v { connection = awaited v.connection })
awaited_keep old v k = record { apart = λ a is. stands_awaited v.connection ∙ k.apart a is; sound = k.sound }

-- a preliminary reply to a transfer
opened_keep : (code : ℕ) (op : Op (List ℕ)) (transfer : Transfer) (old v : View) → Keeps old v → Keeps old (transfer_opened code op transfer v)
opened_keep code op transfer old v k =
    let w : View = record v { connection = awaited v.connection } in
    if_keeps (code == 110) old v (with_reply Replies.Begun op transfer w) k (reply_keep Replies.Begun op transfer old w (awaited_keep old v k))

-- a marker that the server sends
noted_keep : (code : ℕ) (text : Text) (op : Op (List ℕ)) (transfer : Transfer) (old v : View) → Keeps old v → Keeps old (noted code text op transfer v)
noted_keep code text op transfer old v k =
    if_keeps (code == 110) old (record v { job = Transferring op (record transfer { flow = marked_flow (mark_value text) transfer.flow }) }) v (record { apart = k.apart; sound = k.sound }) k

-- a close, unless the link was open
unless_open_keep : (connection : ClientLink) (old v : View) → Keeps old v → Keeps old (unless_open connection v)
unless_open_keep Data.Open old v k = k
unless_open_keep (Data.Over ending) old v k = k
unless_open_keep connection old v k = closes_keep old v k

-- a reply before the preliminary one
before_keep : (verdict : Verdict) (code : ℕ) (op : Op (List ℕ)) (transfer : Transfer) (old v : View) → Keeps old v → Keeps old (before_opening verdict code op transfer v)
before_keep Preliminary code op transfer old v k = opened_keep code op transfer old v k
before_keep Negative code op transfer old v k = reply_keep (Replies.Final code) op transfer old (closes v) (closes_keep old v k)
before_keep verdict code op transfer old v k = strange_keep old v k

-- a reply behind it
behind_keep : (verdict : Verdict) (code : ℕ) (text : Text) (op : Op (List ℕ)) (transfer : Transfer) (old v : View) → Keeps old v → Keeps old (behind_opening verdict code text op transfer v)
behind_keep Preliminary code text op transfer old v k = noted_keep code text op transfer old v k
behind_keep Completion code text op transfer old v k = reply_keep (Replies.Final code) op transfer old v k
behind_keep Negative code text op transfer old v k = reply_keep (Replies.Final code) op transfer old (unless_open v.connection v) (unless_open_keep v.connection old v k)
behind_keep verdict code text op transfer old v k = strange_keep old v k

-- a reply to ABOR
abort_keep : (abort : Abort) (verdict : Verdict) (op : Op (List ℕ)) (transfer : Transfer) (old v : View) → Keeps old v → Keeps old (abort_answered abort verdict op transfer v)
abort_keep Aborts.Sent Completion op transfer old v k =
    carries_on_keep old (record v { job = Transferring op (record transfer { abort = Aborts.Answered }) }) (record { apart = k.apart; sound = k.sound })
abort_keep abort verdict op transfer old v k = strange_keep old v k

-- a reply to a transfer
transfer_keep : (replied : Replied) (verdict : Verdict) (code : ℕ) (text : Text) (op : Op (List ℕ)) (transfer : Transfer) (old v : View) → Keeps old v
    → Keeps old (transfer_answered replied verdict code text op transfer v)
transfer_keep Replies.Nothing verdict code text op transfer old v k = before_keep verdict code op transfer old v k
transfer_keep Replies.Begun verdict code text op transfer old v k = behind_keep verdict code text op transfer old v k
transfer_keep (Replies.Final before) verdict code text op transfer old v k = abort_keep transfer.abort verdict op transfer old v k

-- ---- a reply

-- a reply behind the login
job_keep : (job : Job) (verdict : Verdict) (code : ℕ) (texts : List Text) (old v : View) → Keeps old v → Keeps old (job_answered job verdict code texts v)
job_keep (Doing op step) verdict code texts old v k = step_answered_keep op step verdict code texts old v k
job_keep (Transferring op transfer) verdict code texts old v k = transfer_keep transfer.replied verdict code (joined texts) op transfer old v k
job_keep job verdict code texts old v k = strange_keep old v k

-- a reply, by how far the login is
stand_keep : (standing : Standing) (verdict : Verdict) (code : ℕ) (texts : List Text) (old v : View) → v.standing ≡ standing → Keeps old v → Keeps old (stand_answered standing verdict code texts v)
stand_keep Stands.Greeting verdict code texts old v is k = greeted_keep verdict code old v is k
stand_keep Stands.User verdict code texts old v is k = user_keep verdict old v is k
stand_keep Stands.Pass verdict code texts old v is k = pass_keep verdict old v is k
stand_keep Stands.Entered verdict code texts old v is k = job_keep v.job verdict code texts old v k
stand_keep (Stands.Failed failure) verdict code texts old v is k = k

-- a reply, by its first digit
judged_keep : (verdict : Verdict) (code : ℕ) (texts : List Text) (old v : View) → Keeps old v → Keeps old (judged_reply verdict code texts v)
judged_keep Closing code texts old v k = fails_keep v.standing Failures.Lost old v k
judged_keep Displaced code texts old v k = strange_keep old v k
judged_keep Preliminary code texts old v k = stand_keep v.standing Preliminary code texts old v refl k
judged_keep Completion code texts old v k = stand_keep v.standing Completion code texts old v refl k
judged_keep Intermediate code texts old v k = stand_keep v.standing Intermediate code texts old v refl k
judged_keep Negative code texts old v k = stand_keep v.standing Negative code texts old v refl k

-- a whole reply
answered_keep : (code : ℕ) (texts : List Text) (old v : View) → Keeps old v → Keeps old (answered code texts v)
unfolding answered
answered_keep code texts old v k = judged_keep (verdict_of code) code texts old v k

-- a line of one
line_keep : (heard : Heard) (old v : View) → Keeps old v → Keeps old (line_taken heard v)
line_keep (GoesOn gathered) old v k = record { apart = k.apart; sound = k.sound }
line_keep (Says code texts) old v k = answered_keep code texts old (record v { gathered = Between }) (record { apart = k.apart; sound = k.sound })
line_keep (Faulty fault) old v k = strange_keep old v k

-- an event of the ear
event_keep : (event : NvtEvent) (old v : View) → Keeps old v → Keeps old (event_taken event v)
event_keep (line text) old v k = line_keep (line_heard v.gathered text) old v k
event_keep too_long old v k = strange_keep old v k
event_keep (owed answer) old v k = record { apart = k.apart; sound = k.sound }

-- events of the ear
pub events_keep : (events : List NvtEvent) (old v : View) → Keeps old v → Keeps old (events_taken events v)
events_keep [] old v k = k
events_keep (event ∷ events) old v k = events_keep events old (event_taken event v) (event_keep event old v k)

-- one control octet
pub hears_octet_keep : (v : View) (octet : ℕ) → NearIsApart v → NearIsApart (hears_octet v octet)
hears_octet_keep v octet a =
    let heard : View = record v { ear = (ear reply_limit).step v.ear octet } in
    (events_keep ((ear reply_limit).out v.ear octet) heard heard (same heard)).apart a

-- ---- the data connection

-- a call that does nothing while a close is wanted
unless_keep : (f : View → View) (v : View) → (v.closing ≡ false → Keeps v (f v)) → Keeps v (unless_closing f v)
unless_keep f v k = cond_both v.closing v (f v) (Keeps v) (λ is. same v) k

-- a link that stands, where no close is wanted
open_keep : (connection : ClientLink) (v : View) → v.closing ≡ false → Keeps v (record v { connection = connection })
open_keep connection v is = record { apart = λ a closing. absurd (cc); sound = λ s. (s, refl) }

-- a port is told to a step
listens_step_keep : (step : Step) (op : Op (List ℕ)) (port : ℕ) (v : View) → v.closing ≡ false → Keeps v (listening_by Data.ListenWanted (Doing op step) port v)
listens_step_keep Steps.Listen op port v is = goes_on_keep op Steps.Listen v (record v { connection = Data.Listening port }) (open_keep (Data.Listening port) v is)
listens_step_keep step op port v is = same v

-- a port is told
listens_keep : (connection : ClientLink) (job : Job) (port : ℕ) (v : View) → v.closing ≡ false → Keeps v (listening_by connection job port v)
listens_keep Data.ListenWanted (Doing op step) port v is = listens_step_keep step op port v is
listens_keep connection job port v is = same v

-- a connection that a step wanted is there
connected_step_keep : (step : Step) (op : Op (List ℕ)) (v : View) → v.closing ≡ false → Keeps v (connected (Doing op step) v)
connected_step_keep Steps.Connect op v is = goes_on_keep op Steps.Connect v (record v { connection = Data.Open }) (open_keep Data.Open v is)
connected_step_keep step op v is = same v

-- a connection is there
connected_keep : (job : Job) (v : View) → v.closing ≡ false → Keeps v (connected job v)
connected_keep (Doing op step) v is = connected_step_keep step op v is
connected_keep job v is = same v

-- a link came, from our peer or from another
accepted_keep : (ours : Bool) (v : View) → v.closing ≡ false → Keeps v (accepted ours v)
accepted_keep true v is = carries_on_keep v (record v { connection = Data.Open }) (open_keep Data.Open v is)
accepted_keep false v is = carries_on_keep v (record v { connection = Data.Over Endings.Foreign; closing = true }) (record { apart = λ a closing. refl; sound = λ s. (s, refl) })

-- a link opens
opened_by_keep : (connection : ClientLink) (host : Host) (v : View) → v.closing ≡ false → Keeps v (opened_by connection host v)
opened_by_keep (Data.Connecting endpoint) host v is = connected_keep v.job v is
opened_by_keep (Data.Accepting port) host v is = accepted_keep (same_host host v.peer) v is
opened_by_keep connection host v is = same v

-- a link is refused
unopened_keep : (connection : ClientLink) (v : View) → Keeps v (unopened_by connection v)
unopened_keep (Data.Connecting endpoint) v = finishes_keep Unopened v v (same v)
unopened_keep (Data.Accepting port) v = carries_on_keep v (record v { connection = Data.Over Endings.Broken; closing = true }) (record { apart = λ a closing. refl; sound = λ s. (s, refl) })
unopened_keep connection v = same v

-- a link is over
over_keep : (connection : ClientLink) (ending : Ending) (v : View) → Keeps v (over_by connection ending v)
over_keep Data.Open ending v = carries_on_keep v (record v { connection = Data.Over ending }) (record { apart = λ a is. refl; sound = λ s. (s, refl) })
over_keep connection ending v = same v

-- octets of a transfer went out
goes_keep : (count : ℕ) (job : Job) (v : View) → Keeps v (goes_by count job v)
goes_keep count (Transferring op transfer) v = carries_on_keep v (record v { job = Transferring op (record transfer { flow = went count transfer.flow }) }) (record { apart = λ a. a; sound = λ s. (s, refl) })
goes_keep count job v = same v

-- an octet of a transfer came
octet_keep : (job : Job) (octet : ℕ) (old v : View) → Keeps old v → Keeps old (heard_by job octet v)
octet_keep (Transferring op transfer) octet old v k =
    let heard : Transfer = record transfer { flow = heard_flow transfer.abort transfer.flow octet } in
    aborts_once_keep (Transferring op heard) old (record v { job = Transferring op heard }) (record { apart = k.apart; sound = k.sound })
octet_keep job octet old v k = k

-- ---- the calls

-- octets of the link
pub receives_keep : (octets : List ℕ) (old v : View) → Keeps old v → Keeps old (receives v octets)
receives_keep [] old v k = k
receives_keep (octet ∷ octets) old v k = receives_keep octets old (receives_octet v octet) (octet_keep v.job octet old v k)

-- a port is told, as a call
pub listening_keep : (port : ℕ) (v : View) → Keeps v (listening port v)
unfolding listening
listening_keep port v = unless_keep (λ u. listening_by u.connection u.job port u) v (λ is. listens_keep v.connection v.job port v is)

-- a link opens, as a call
pub data_opened_keep : (host : Host) (v : View) → Keeps v (data_opened host v)
unfolding data_opened
data_opened_keep host v = unless_keep (λ u. opened_by u.connection host u) v (λ is. opened_by_keep v.connection host v is)

-- a link is refused, as a call
pub data_refused_keep : (v : View) → Keeps v (data_refused v)
unfolding data_refused
data_refused_keep v = unless_keep (λ u. unopened_by u.connection u) v (λ is. unopened_keep v.connection v)

-- the server has closed the link
pub data_end_keep : (v : View) → Keeps v (data_end v)
unfolding data_end
data_end_keep v = unless_keep (λ u. over_by u.connection (ending_of u.job) u) v (λ is. over_keep v.connection (ending_of v.job) v)

-- the link breaks
pub data_fault_keep : (v : View) → Keeps v (data_fault v)
unfolding data_fault
data_fault_keep v = unless_keep (λ u. over_by u.connection Endings.Broken u) v (λ is. over_keep v.connection Endings.Broken v)

-- octets go out over the link
pub gives_data_keep : (count : ℕ) (v : View) → Keeps v (gives_data count v)
unfolding gives_data
gives_data_keep count v = goes_keep count v.job v

-- the control connection ends
pub control_end_keep : (v : View) → Keeps v (control_end v)
unfolding control_end
control_end_keep v = fails_keep v.standing Failures.Lost v v (same v)

-- ---- an operation begins, and its report

-- an operation begins, or waits for the login
started_keep : (standing : Standing) (op : Op (List ℕ)) (old v : View) → Keeps old v → Keeps old (started_by standing op v)
started_keep Stands.Entered op old v k = begins_keep op old v k
started_keep standing op old v k = record { apart = k.apart; sound = k.sound }

-- an operation that can't be sent
unsendable_keep : (standing : Standing) (v : View) → Keeps v (unsendable_by standing v)
unsendable_keep (Stands.Failed failure) v = record { apart = λ a. a; sound = λ s. (s, refl) }
unsendable_keep standing v = record { apart = λ a. a; sound = λ s. (s, refl) }

-- an operation is begun
begun_keep : (run : Option Run) (op : Op (List ℕ)) (v : View) → Keeps v (begun run op v)
begun_keep run op v =
    if_keeps (can_be_sent op) v (started_by v.standing op (record v { run = run })) (unsendable_by v.standing v)
    (started_keep v.standing op v (record v { run = run }) (record { apart = λ a. a; sound = λ s. (s, refl) })) (unsendable_keep v.standing v)

-- the same, as a call
pub starts_keep : (op : Op (List ℕ)) (v : View) → Keeps v (starts op v)
unfolding starts
starts_keep op v = begun_keep None op v

-- an upload over breaks is begun
pub uploads_keep : (u : OverBreaks) (v : View) → Keeps v (uploads u v)
unfolding uploads
uploads_keep u v = begun_keep (Some (run_of u)) (first_try u) v

-- a report is taken
reported_keep : (job : Job) (v : View) → Keeps v (reported_by job v)
reported_keep (Told answer) v = record { apart = λ a. a; sound = λ s. (s, refl) }
reported_keep job v = same v

-- the same, as a call
pub reports_keep : (v : View) → Keeps v (reports v)
reports_keep v = reported_keep v.job v
