-- What a reply leaves fit: a lemma for each definition of `Dialogue` of `ftp_client_model`.
use Rattle.std.proofs.Common.{◌≡◌, ℕ, ◌+◌, ◌*◌, ◌≤◌, List, Bool, true, false, ◌&&◌, Option, Some, None, refl, sym, ap, subst, ◌∙◌, arith, length, true≢false}
use Rattle.std.specs.Prelude.{if◌then◌else◌, ◌==◌}
use Rattle.std.specs.Option.{option_map}
use Rattle.std.proofs.lemmas.Bool.{and_parts, cond_both}
use Rattle.ftp_command.specs.declared.command.Command.TheVariants as Commands
use Rattle.ftp_endpoint.specs.declared.endpoint.Endpoint.{Endpoint}
use Rattle.ftp_ends.specs.Link.{same_host}
use Rattle.ftp_operation.specs.Answer.{Said, Foreign, Refused}
use Rattle.ftp_operation.specs.Operation.{can_be_sent}
use Rattle.ftp_operation.specs.declared.op.Op.{Op}
use Rattle.ftp_reply.specs.Lines.{Text, joined}
use Rattle.ftp_reply.specs.Values.{extended_value, mark_value, passive_value}
use Rattle.ftp_client_model.proofs.SentLemmas.{logins_have_lines}
use Rattle.ftp_client_model.specs.Calls.{reply_limit}
use Rattle.ftp_client_model.specs.Dialogue.{abort_answered, aborts_once_enough, answer_in, answered, answers_by, answers_job, awaited, awaits_reply, before_opening, behind_opening, carries_on, closes, closes_once_given, closes_once_given_by, dials, endpoint_named, enters_with, finishes, finishes_by, finishes_read, goes_on, greeted, has_begun, intermediate, is_given, is_to_abort, is_unsent, job_answered, judged, judged_reply, login_ends, marked_flow, next_job, next_with, noted, passive_named, pass_answered, port_named, refused, sends_abort, set_accepted, stand_answered, step_answered, step_done, transfer_answered, transfer_opened, unless_open, user_answered, with_reply}
use Rattle.ftp_client_model.specs.Octets.{has_enough}
use Rattle.ftp_client_model.specs.Plan.{asked_settings, is_extended, next_step, settings_behind}
use Rattle.ftp_client_model.specs.Replies.{Verdict, Preliminary, Completion, Intermediate, Negative, Closing, Displaced, verdict_of}
use Rattle.ftp_client_model.specs.Tries.{Run, run_at}
use Rattle.ftp_client_model.specs.View.{Flow, Job, Idle, Waiting, Doing, Transferring, Told, Transfer, View, done_with, dropped, failed_job, failure_said, fails, fails_by, strange}
use Rattle.ftp_client_model.specs.declared.client.Abort.{Abort}
use Rattle.ftp_client_model.specs.declared.client.Abort.TheVariants as Aborts
use Rattle.ftp_client_model.specs.declared.client.ClientLink.{ClientLink}
use Rattle.ftp_client_model.specs.declared.client.ClientLink.TheVariants as Data
use Rattle.ftp_client_model.specs.declared.client.Ending.TheVariants as Endings
use Rattle.ftp_client_model.specs.declared.client.Failure.{Failure}
use Rattle.ftp_client_model.specs.declared.client.Failure.TheVariants as Failures
use Rattle.ftp_client_model.specs.declared.client.Replied.{Replied}
use Rattle.ftp_client_model.specs.declared.client.Replied.TheVariants as Replies
use Rattle.ftp_client_model.specs.declared.client.Standing.{Standing}
use Rattle.ftp_client_model.specs.declared.client.Standing.TheVariants as Stands
use Rattle.ftp_client_model.specs.declared.client.Step.{Step}
use Rattle.ftp_client_model.specs.declared.client.Step.TheVariants as Steps
use Rattle.ftp_client_model.specs.Fit.{HasNoOperation, IsCalmAt, IsFit, IsSendable, IsSoundLogin, IsSoundView, IsTied, IsTypedPort, commands_next, next_of_idle, next_of_transfer}
use Rattle.ftp_client_model.proofs.AnswerLemmas.{CanBeSentIf, IsSmallAnswer, IsSmallIf, answer_small, answered_small, next_sent, run_on, unsent_small}
use Rattle.ftp_ends.proofs.ReadLemmas.{none_short}
use Rattle.ftp_client_model.proofs.CommandLemmas.{IsLoose, IsPast, begins_fits, calm_past, goes_fits, has_line, loose_by, loose_for, sends_fits, tied_by}

-- a client that may send a command at once
pub record IsReady (v : View) : Type 0 where
  pub sound : IsSoundView v
  pub sendable : IsSendable v.job
  pub calm : IsCalmAt v.standing v.job
  pub tied : IsTied v.connection v.job
  pub room : length v.owed ≤ 1027

-- ---- how many commands follow

idle_le : (standing : Standing) → next_of_idle standing ≤ 1
idle_le Stands.Entered = omega arith
idle_le Stands.Greeting = omega arith
idle_le Stands.User = omega arith
idle_le Stands.Pass = omega arith
idle_le (Stands.Failed failure) = omega arith

if_le : (b : Bool) → (if b then 1 else 0) ≤ 1
if_le true = omega arith
if_le false = omega arith

awaits_le : (b : Bool) → (if b then 0 else 1) ≤ 1
awaits_le true = omega arith
awaits_le false = omega arith

transfer_le : (abort : Abort) (replied : Replied) → next_of_transfer abort replied ≤ 1
transfer_le Aborts.Sent replied = omega arith
transfer_le Aborts.Unsent replied = if_le (has_begun replied)
transfer_le Aborts.Answered replied = if_le (has_begun replied)

pub next_le : (standing : Standing) (job : Job) → commands_next standing job ≤ 1
next_le standing Idle = idle_le standing
next_le standing (Told answer) = idle_le standing
next_le standing (Waiting op) = omega arith
next_le standing (Doing op step) = awaits_le (awaits_reply step)
next_le standing (Transferring op transfer) = transfer_le transfer.abort transfer.replied

pub ready_fit : (v : View) → IsReady v → IsFit v
ready_fit v r = record { sound = r.sound; sendable = r.sendable; calm = r.calm; tied = r.tied; room = omega (arith, r.room, next_le v.standing v.job) }

pub fit_ready : (v : View) → IsFit v → commands_next v.standing v.job ≡ 1 → IsReady v
fit_ready v k one = record { sound = k.sound; sendable = k.sendable; calm = k.calm; tied = k.tied; room = omega (arith, k.room, one) }

pub calm_of : (standing : Standing) (job : Job) → HasNoOperation job → IsCalmAt standing job
calm_of Stands.Greeting job calm = calm
calm_of Stands.User job calm = calm
calm_of Stands.Pass job calm = calm
calm_of Stands.Entered job calm = tt
calm_of (Stands.Failed failure) job calm = tt

pub doing_past : (standing : Standing) (op : Op (List ℕ)) (step : Step) → IsCalmAt standing (Doing op step) → IsPast standing
doing_past Stands.Greeting op step calm = absurd calm
doing_past Stands.User op step calm = absurd calm
doing_past Stands.Pass op step calm = absurd calm
doing_past Stands.Entered op step calm = tt
doing_past (Stands.Failed failure) op step calm = tt

pub transfer_past : (standing : Standing) (op : Op (List ℕ)) (transfer : Transfer) → IsCalmAt standing (Transferring op transfer) → IsPast standing
transfer_past Stands.Greeting op transfer calm = absurd calm
transfer_past Stands.User op transfer calm = absurd calm
transfer_past Stands.Pass op transfer calm = absurd calm
transfer_past Stands.Entered op transfer calm = tt
transfer_past (Stands.Failed failure) op transfer calm = tt

-- ---- what is left behind

-- with another connection, of which no port is typed
pub free_sound : (v : View) → IsSoundView v → IsSoundLogin v.user v.pass v.here v.run Data.Free v.ear v.gathered
free_sound v k = record { user_fits = k.user_fits; pass_fits = k.pass_fits; host = k.host; sendable = k.sendable; port = tt; reading = k.reading; reply = k.reply }

pub connected_sound : (connection : ClientLink) (v : View) → IsTypedPort connection → IsSoundView v → IsSoundLogin v.user v.pass v.here v.run connection v.ear v.gathered
connected_sound connection v typed k = record { user_fits = k.user_fits; pass_fits = k.pass_fits; host = k.host; sendable = k.sendable; port = typed; reading = k.reading; reply = k.reply }

pub tells_fits : (answer : Said) (v : View) → IsSoundView v → IsLoose v.connection → length v.owed + 2200 * next_of_idle v.standing ≤ 3227 → IsFit (done_with answer v)
tells_fits answer v k loose room = record {
  sound = record { user_fits = k.user_fits; pass_fits = k.pass_fits; host = k.host; sendable = tt; port = k.port; reading = k.reading; reply = k.reply };
  sendable = tt;
  calm = calm_of v.standing (Told answer) tt;
  tied = tied_by v.connection (Told answer) loose;
  room = room;
}

failed_next : (answer : Said) (failure : Failure) (job : Job) → commands_next (Stands.Failed failure) (failed_job answer job) ≡ 0
failed_next answer failure Idle = refl
failed_next answer failure (Waiting op) = refl
failed_next answer failure (Doing op step) = refl
failed_next answer failure (Transferring op transfer) = refl
failed_next answer failure (Told other) = refl

failed_sendable : (answer : Said) (job : Job) → IsSendable (failed_job answer job)
failed_sendable answer Idle = tt
failed_sendable answer (Waiting op) = tt
failed_sendable answer (Doing op step) = tt
failed_sendable answer (Transferring op transfer) = tt
failed_sendable answer (Told other) = tt

-- a failure leaves nothing to be sent
failure_fits : (failure : Failure) (v : View) → IsSoundView v → IsFit (fails_by Stands.Greeting failure v)
failure_fits failure v k = record {
  sound = record { user_fits = k.user_fits; pass_fits = k.pass_fits; host = k.host; sendable = tt; port = tt; reading = none_short reply_limit; reply = omega arith };
  sendable = failed_sendable (failure_said failure) v.job;
  calm = tt;
  tied = tt;
  room = omega (arith, failed_next (failure_said failure) failure v.job);
}

fails_by_fits : (standing : Standing) (failure : Failure) (v : View) → IsFit v → IsFit (fails_by standing failure v)
fails_by_fits Stands.Greeting failure v k = failure_fits failure v k.sound
fails_by_fits Stands.User failure v k = failure_fits failure v k.sound
fails_by_fits Stands.Pass failure v k = failure_fits failure v k.sound
fails_by_fits Stands.Entered failure v k = failure_fits failure v k.sound
fails_by_fits (Stands.Failed before) failure v k = k

pub fails_fits : (failure : Failure) (v : View) → IsFit v → IsFit (fails failure v)
fails_fits failure v k = fails_by_fits v.standing failure v k

pub strange_fits : (v : View) → IsReady v → IsFit (strange v)
strange_fits v r = fails_fits Failures.Strange v (ready_fit v r)

-- ---- the end of an operation

abbrev IsPastIf : Option (Op (List ℕ)) → Standing → Type 0
IsPastIf None standing = Unit {0}
IsPastIf (Some op) standing = IsPast standing

any_past : (next : Option (Op (List ℕ))) (standing : Standing) → IsPast standing → IsPastIf next standing
any_past None standing past = tt
any_past (Some op) standing past = past

next_past : (run : Option Run) (job : Job) (answer : Said) (standing : Standing) → IsCalmAt standing job → IsPastIf (next_job run job answer) standing
next_past run Idle answer standing calm = tt
next_past run (Waiting op) answer standing calm = tt
next_past run (Doing op step) answer standing calm = any_past (next_with run op answer) standing (doing_past standing op step calm)
next_past run (Transferring op transfer) answer standing calm = any_past (next_with run op answer) standing (transfer_past standing op transfer calm)
next_past run (Told other) answer standing calm = tt

finish_by : (next : Option (Op (List ℕ))) (answer : Said) (v : View) → CanBeSentIf next → IsPastIf next v.standing → IsReady v → IsFit (finishes_by next answer v)
finish_by None answer v can past r = tells_fits answer (dropped v) (free_sound v r.sound) tt (omega (arith, r.room, idle_le v.standing))
finish_by (Some op) answer v can past r =
    let k = r.sound in
    begins_fits op (record (dropped v) { run = option_map (run_at op) v.run }) can
    (record { user_fits = k.user_fits; pass_fits = k.pass_fits; host = k.host; sendable = run_on op v.run k.sendable; port = tt; reading = k.reading; reply = k.reply }) past tt r.room

pub finishes_fits : (answer : Said) (v : View) → IsSmallAnswer answer → IsReady v → IsFit (finishes answer v)
finishes_fits answer v small r =
    finish_by (next_job v.run v.job answer) answer v (next_sent v.run v.job answer r.sound.sendable r.sendable small) (next_past v.run v.job answer v.standing r.calm) r

pub read_fits : (answer : Option Said) (v : View) → IsSmallIf answer → IsReady v → IsFit (finishes_read answer v)
read_fits None v small r = strange_fits v r
read_fits (Some answer) v small r = finishes_fits answer v small r

-- ---- where a transfer stands

pub closes_fits : (v : View) → IsFit v → IsFit (closes v)
closes_fits v k = record { sound = connected_sound (Data.Over Endings.Ours) v tt k.sound; sendable = k.sendable; calm = k.calm; tied = tt; room = k.room }

closes_ready : (v : View) → IsReady v → IsReady (closes v)
closes_ready v r = record { sound = connected_sound (Data.Over Endings.Ours) v tt r.sound; sendable = r.sendable; calm = r.calm; tied = tt; room = r.room }

closes_by_fits : (given : Bool) (connection : ClientLink) (v : View) → IsFit v → IsFit (closes_once_given_by given connection v)
closes_by_fits true Data.Open v k = closes_fits v k
closes_by_fits true Data.Free v k = k
closes_by_fits true Data.ListenWanted v k = k
closes_by_fits true (Data.Listening port) v k = k
closes_by_fits true (Data.Connecting endpoint) v k = k
closes_by_fits true (Data.Accepting port) v k = k
closes_by_fits true (Data.Over ending) v k = k
closes_by_fits false connection v k = k

closes_once_fits : (job : Job) (v : View) → IsFit v → IsFit (closes_once_given job v)
closes_once_fits (Transferring op transfer) v k = closes_by_fits (has_begun transfer.replied && is_given transfer.flow) v.connection v k
closes_once_fits Idle v k = k
closes_once_fits (Waiting op) v k = k
closes_once_fits (Doing op step) v k = k
closes_once_fits (Told answer) v k = k

-- an ABOR is sent where a command may follow
begun_next : (abort : Abort) (replied : Replied) → is_unsent abort ≡ true → has_begun replied ≡ true → next_of_transfer abort replied ≡ 1
begun_next Aborts.Unsent replied unsent begun = ap (λ b. if b then 1 else 0) begun
begun_next Aborts.Sent replied unsent begun = absurd (true≢false (sym unsent))
begun_next Aborts.Answered replied unsent begun = absurd (true≢false (sym unsent))

abort_next : (connection : ClientLink) (op : Op (List ℕ)) (transfer : Transfer) → is_to_abort connection op transfer ≡ true → next_of_transfer transfer.abort transfer.replied ≡ 1
abort_next Data.Open op transfer is =
    let first = and_parts (is_unsent transfer.abort && has_begun transfer.replied) (has_enough op transfer.flow) is in
    let both = and_parts (is_unsent transfer.abort) (has_begun transfer.replied) first.0 in
    begun_next transfer.abort transfer.replied both.0 both.1
abort_next Data.Free op transfer is = absurd (true≢false (sym is))
abort_next Data.ListenWanted op transfer is = absurd (true≢false (sym is))
abort_next (Data.Listening port) op transfer is = absurd (true≢false (sym is))
abort_next (Data.Connecting endpoint) op transfer is = absurd (true≢false (sym is))
abort_next (Data.Accepting port) op transfer is = absurd (true≢false (sym is))
abort_next (Data.Over ending) op transfer is = absurd (true≢false (sym is))

pub transfer_loose : (connection : ClientLink) (op : Op (List ℕ)) (transfer : Transfer) → IsTied connection (Transferring op transfer) → IsLoose connection
transfer_loose connection op transfer tied = loose_by connection (Transferring op transfer) tied (λ is. is) (λ is. is)

abort_fits : (op : Op (List ℕ)) (transfer : Transfer) (v : View) → v.job ≡ Transferring op transfer → next_of_transfer transfer.abort transfer.replied ≡ 1 → IsFit v → IsFit (sends_abort op transfer v)
abort_fits op transfer v is one k =
    let r = fit_ready v k (ap (commands_next v.standing) is ∙ one) in
    let sent : Job = Transferring op (record transfer { abort = Aborts.Sent }) in
    let past = transfer_past v.standing op transfer (subst (IsCalmAt v.standing) is r.calm) in
    sends_fits Commands.Abor (record v { job = sent }) (has_line Commands.Abor (tt, tt)) r.sound (subst IsSendable is r.sendable) (calm_past v.standing sent past) (tied_by v.connection sent (transfer_loose v.connection op transfer (subst (IsTied v.connection) is r.tied))) r.room refl

pub aborts_fits : (job : Job) (v : View) → v.job ≡ job → IsFit v → IsFit (aborts_once_enough job v)
aborts_fits (Transferring op transfer) v is k =
    cond_both (is_to_abort v.connection op transfer) (sends_abort op transfer v) v IsFit (λ to. abort_fits op transfer v is (abort_next v.connection op transfer to) k) (λ to. k)
aborts_fits Idle v is k = k
aborts_fits (Waiting op) v is k = k
aborts_fits (Doing op step) v is k = k
aborts_fits (Told answer) v is k = k

answers_by_fits : (replied : Replied) (abort : Abort) (connection : ClientLink) (op : Op (List ℕ)) (flow : Flow) (v : View) → commands_next v.standing v.job ≡ next_of_transfer abort replied → IsFit v
    → IsFit (answers_by replied abort connection op flow v)
answers_by_fits (Replies.Final code) Aborts.Unsent (Data.Over ending) op flow v is k = read_fits (judged ending Aborts.Unsent code op flow) v (unsent_small ending code op flow) (fit_ready v k is)
answers_by_fits (Replies.Final code) Aborts.Answered (Data.Over ending) op flow v is k = read_fits (judged ending Aborts.Answered code op flow) v (answered_small ending code op flow) (fit_ready v k is)
answers_by_fits (Replies.Final code) Aborts.Sent connection op flow v is k = k
answers_by_fits (Replies.Final code) Aborts.Unsent Data.Free op flow v is k = k
answers_by_fits (Replies.Final code) Aborts.Unsent Data.ListenWanted op flow v is k = k
answers_by_fits (Replies.Final code) Aborts.Unsent (Data.Listening port) op flow v is k = k
answers_by_fits (Replies.Final code) Aborts.Unsent (Data.Connecting endpoint) op flow v is k = k
answers_by_fits (Replies.Final code) Aborts.Unsent (Data.Accepting port) op flow v is k = k
answers_by_fits (Replies.Final code) Aborts.Unsent Data.Open op flow v is k = k
answers_by_fits (Replies.Final code) Aborts.Answered Data.Free op flow v is k = k
answers_by_fits (Replies.Final code) Aborts.Answered Data.ListenWanted op flow v is k = k
answers_by_fits (Replies.Final code) Aborts.Answered (Data.Listening port) op flow v is k = k
answers_by_fits (Replies.Final code) Aborts.Answered (Data.Connecting endpoint) op flow v is k = k
answers_by_fits (Replies.Final code) Aborts.Answered (Data.Accepting port) op flow v is k = k
answers_by_fits (Replies.Final code) Aborts.Answered Data.Open op flow v is k = k
answers_by_fits Replies.Nothing abort connection op flow v is k = k
answers_by_fits Replies.Begun abort connection op flow v is k = k

answers_fits : (job : Job) (v : View) → v.job ≡ job → IsFit v → IsFit (answers_job job v)
answers_fits (Transferring op transfer) v is k = answers_by_fits transfer.replied transfer.abort v.connection op transfer.flow v (ap (commands_next v.standing) is) k
answers_fits Idle v is k = k
answers_fits (Waiting op) v is k = k
answers_fits (Doing op step) v is k = k
answers_fits (Told answer) v is k = k

pub carries_fits : (v : View) → IsFit v → IsFit (carries_on v)
carries_fits v k =
    let closed : View = closes_once_given v.job v in
    let sent : View = aborts_once_enough closed.job closed in
    answers_fits sent.job sent refl (aborts_fits closed.job closed refl (closes_once_fits v.job v k))

-- ---- the login

login_next : (job : Job) → HasNoOperation job → (commands_next Stands.User job ≡ 0) × (commands_next Stands.Pass job ≡ 0)
login_next Idle calm = (refl, refl)
login_next (Waiting op) calm = (refl, refl)
login_next (Told answer) calm = (refl, refl)
login_next (Doing op step) calm = absurd calm
login_next (Transferring op transfer) calm = absurd calm

greeted_fits : (verdict : Verdict) (code : ℕ) (v : View) → HasNoOperation v.job → IsReady v → IsFit (greeted verdict code v)
greeted_fits Completion code v calm r =
    let lines = logins_have_lines v.user v.pass r.sound.user_fits r.sound.pass_fits in
    sends_fits (Commands.User v.user) (record v { standing = Stands.User }) (has_line (Commands.User v.user) lines.user_line) r.sound r.sendable calm r.tied r.room (login_next v.job calm).0
greeted_fits Preliminary code v calm r = cond_both (code == 120) v (strange v) IsFit (λ is. ready_fit v r) (λ is. strange_fits v r)
greeted_fits Intermediate code v calm r = strange_fits v r
greeted_fits Negative code v calm r = strange_fits v r
greeted_fits Closing code v calm r = strange_fits v r
greeted_fits Displaced code v calm r = strange_fits v r

entered_ready : (v : View) → IsReady v → IsReady (record v { standing = Stands.Entered })
entered_ready v r = record { sound = r.sound; sendable = r.sendable; calm = tt; tied = r.tied; room = r.room }

enters_fits : (job : Job) (v : View) → v.job ≡ job → IsReady v → IsFit (enters_with job (record v { standing = Stands.Entered }))
enters_fits (Waiting op) v is r = begins_fits op (record v { standing = Stands.Entered }) (subst IsSendable is r.sendable) r.sound tt (loose_by v.connection (Waiting op) (subst (IsTied v.connection) is r.tied) (λ is. is) (λ is. is)) r.room
enters_fits Idle v is r = ready_fit (record v { standing = Stands.Entered }) (entered_ready v r)
enters_fits (Doing op step) v is r = ready_fit (record v { standing = Stands.Entered }) (entered_ready v r)
enters_fits (Transferring op transfer) v is r = ready_fit (record v { standing = Stands.Entered }) (entered_ready v r)
enters_fits (Told answer) v is r = ready_fit (record v { standing = Stands.Entered }) (entered_ready v r)

login_fits : (v : View) → IsReady v → IsFit (login_ends v)
login_fits v r = enters_fits v.job v refl r

user_fits : (verdict : Verdict) (v : View) → HasNoOperation v.job → IsReady v → IsFit (user_answered verdict v)
user_fits Intermediate v calm r =
    let lines = logins_have_lines v.user v.pass r.sound.user_fits r.sound.pass_fits in
    sends_fits (Commands.Pass v.pass) (record v { standing = Stands.Pass }) (has_line (Commands.Pass v.pass) lines.pass_line) r.sound r.sendable calm r.tied r.room (login_next v.job calm).1
user_fits Completion v calm r = login_fits v r
user_fits Negative v calm r = login_fits v r
user_fits Preliminary v calm r = strange_fits v r
user_fits Closing v calm r = strange_fits v r
user_fits Displaced v calm r = strange_fits v r

pass_fits : (verdict : Verdict) (v : View) → IsReady v → IsFit (pass_answered verdict v)
pass_fits Completion v r = login_fits v r
pass_fits Negative v r = login_fits v r
pass_fits Preliminary v r = strange_fits v r
pass_fits Intermediate v r = strange_fits v r
pass_fits Closing v r = strange_fits v r
pass_fits Displaced v r = strange_fits v r

-- ---- an answer at a step

goes_ready : (op : Op (List ℕ)) (step : Step) (v : View) → can_be_sent op ≡ true → IsPast v.standing → IsLoose v.connection → IsReady v → IsFit (goes_on op step v)
goes_ready op step v can past loose r = goes_fits op step v can r.sound past (loose_for (next_step v.settings op step) v.connection loose) r.room

dials_fits : (op : Op (List ℕ)) (endpoint : Endpoint) (v : View) → can_be_sent op ≡ true → IsPast v.standing → IsReady v → IsFit (dials op endpoint v)
dials_fits op endpoint v can past r = goes_fits op Steps.Passive (record v { connection = Data.Connecting endpoint }) can (connected_sound (Data.Connecting endpoint) v tt r.sound) past tt r.room

named_fits : (endpoint : Option Endpoint) (op : Op (List ℕ)) (v : View) → can_be_sent op ≡ true → IsPast v.standing → IsReady v → IsFit (endpoint_named endpoint op v)
named_fits None op v can past r = strange_fits v r
named_fits (Some endpoint) op v can past r =
    cond_both (same_host endpoint.host v.peer) (dials op endpoint v) (finishes Foreign v) IsFit (λ is. dials_fits op endpoint v can past r) (λ is. finishes_fits Foreign v tt r)

port_fits : (port : Option ℕ) (op : Op (List ℕ)) (v : View) → can_be_sent op ≡ true → IsPast v.standing → IsReady v → IsFit (port_named port op v)
port_fits None op v can past r = strange_fits v r
port_fits (Some port) op v can past r = dials_fits op (record { host = v.peer; port = port }) v can past r

passive_fits : (extended : Bool) (op : Op (List ℕ)) (text : Text) (v : View) → can_be_sent op ≡ true → IsPast v.standing → IsReady v → IsFit (passive_named extended op text v)
passive_fits true op text v can past r = port_fits (extended_value text) op v can past r
passive_fits false op text v can past r = named_fits (passive_value text) op v can past r

set_fits : (op : Op (List ℕ)) (step : Step) (v : View) → can_be_sent op ≡ true → IsPast v.standing → IsLoose v.connection → IsReady v → IsFit (set_accepted op step v)
set_fits op step v can past loose r =
    let w : View = record v { settings = settings_behind step v.settings (asked_settings op) } in
    goes_fits op step w can r.sound past (loose_for (next_step w.settings op step) v.connection loose) r.room

done_fits : (op : Op (List ℕ)) (step : Step) (texts : List Text) (v : View) → can_be_sent op ≡ true → IsPast v.standing → IsTied v.connection (Doing op step) → IsReady v → IsFit (step_done op step texts v)
done_fits op Steps.Port texts v can past tied r = goes_ready op Steps.Port v can past (loose_by v.connection (Doing op Steps.Port) tied (λ is. is) (λ is. is)) r
done_fits op Steps.Passive texts v can past tied r = passive_fits (is_extended v op) op (joined texts) v can past r
done_fits op Steps.Last texts v can past tied r = read_fits (answer_in op texts) v (answer_small op texts) r
done_fits op Steps.Listen texts v can past tied r = strange_fits v r
done_fits op Steps.Connect texts v can past tied r = strange_fits v r
done_fits op Steps.Restart texts v can past tied r = strange_fits v r
done_fits op Steps.Source texts v can past tied r = strange_fits v r
done_fits op Steps.Kind texts v can past tied r = set_fits op Steps.Kind v can past (loose_by v.connection (Doing op Steps.Kind) tied (λ is. is) (λ is. is)) r
done_fits op Steps.Structure texts v can past tied r = set_fits op Steps.Structure v can past (loose_by v.connection (Doing op Steps.Structure) tied (λ is. is) (λ is. is)) r
done_fits op Steps.Mode texts v can past tied r = set_fits op Steps.Mode v can past (loose_by v.connection (Doing op Steps.Mode) tied (λ is. is) (λ is. is)) r

intermediate_fits : (op : Op (List ℕ)) (step : Step) (v : View) → can_be_sent op ≡ true → IsPast v.standing → IsTied v.connection (Doing op step) → IsReady v → IsFit (intermediate op step v)
intermediate_fits op Steps.Restart v can past tied r = goes_ready op Steps.Restart v can past (loose_by v.connection (Doing op Steps.Restart) tied (λ is. is) (λ is. is)) r
intermediate_fits op Steps.Source v can past tied r = goes_ready op Steps.Source v can past (loose_by v.connection (Doing op Steps.Source) tied (λ is. is) (λ is. is)) r
intermediate_fits op Steps.Port v can past tied r = strange_fits v r
intermediate_fits op Steps.Passive v can past tied r = strange_fits v r
intermediate_fits op Steps.Last v can past tied r = strange_fits v r
intermediate_fits op Steps.Listen v can past tied r = strange_fits v r
intermediate_fits op Steps.Connect v can past tied r = strange_fits v r
intermediate_fits op Steps.Kind v can past tied r = strange_fits v r
intermediate_fits op Steps.Structure v can past tied r = strange_fits v r
intermediate_fits op Steps.Mode v can past tied r = strange_fits v r

refused_fits : (step : Step) (code : ℕ) (v : View) → IsReady v → IsFit (refused step code v)
refused_fits step code v r = cond_both (awaits_reply step) (finishes (Refused code) v) (strange v) IsFit (λ is. finishes_fits (Refused code) v tt r) (λ is. strange_fits v r)

step_fits : (op : Op (List ℕ)) (step : Step) (verdict : Verdict) (code : ℕ) (texts : List Text) (v : View) → can_be_sent op ≡ true → IsPast v.standing → IsTied v.connection (Doing op step) → IsReady v → IsFit (step_answered op step verdict code texts v)
step_fits op step Completion code texts v can past tied r = done_fits op step texts v can past tied r
step_fits op step Intermediate code texts v can past tied r = intermediate_fits op step v can past tied r
step_fits op step Negative code texts v can past tied r = refused_fits step code v r
step_fits op step Preliminary code texts v can past tied r = strange_fits v r
step_fits op step Closing code texts v can past tied r = strange_fits v r
step_fits op step Displaced code texts v can past tied r = strange_fits v r

-- ---- an answer to a transfer

-- the transfer in another state
transfer_ready : (op : Op (List ℕ)) (transfer : Transfer) (v : View) → can_be_sent op ≡ true → IsPast v.standing → IsLoose v.connection → IsReady v → IsReady (record v { job = Transferring op transfer })
transfer_ready op transfer v can past loose r = record { sound = r.sound; sendable = can; calm = calm_past v.standing (Transferring op transfer) past; tied = tied_by v.connection (Transferring op transfer) loose; room = r.room }

pub transfer_carries : (op : Op (List ℕ)) (transfer : Transfer) (v : View) → can_be_sent op ≡ true → IsPast v.standing → IsLoose v.connection → IsReady v → IsFit (carries_on (record v { job = Transferring op transfer }))
transfer_carries op transfer v can past loose r = carries_fits (record v { job = Transferring op transfer }) (ready_fit (record v { job = Transferring op transfer }) (transfer_ready op transfer v can past loose r))

awaited_typed : (connection : ClientLink) → IsTypedPort connection → IsTypedPort (awaited connection)
awaited_typed (Data.Listening port) typed = tt
awaited_typed Data.Free typed = tt
awaited_typed Data.ListenWanted typed = tt
awaited_typed (Data.Connecting endpoint) typed = tt
awaited_typed (Data.Accepting port) typed = tt
awaited_typed Data.Open typed = tt
awaited_typed (Data.Over ending) typed = tt

awaited_loose : (connection : ClientLink) → IsLoose connection → IsLoose (awaited connection)
awaited_loose (Data.Listening port) loose = tt
awaited_loose Data.Free loose = tt
awaited_loose Data.ListenWanted loose = absurd loose
awaited_loose (Data.Connecting endpoint) loose = absurd loose
awaited_loose (Data.Accepting port) loose = tt
awaited_loose Data.Open loose = tt
awaited_loose (Data.Over ending) loose = tt

begun_fits : (code : ℕ) (op : Op (List ℕ)) (transfer : Transfer) (v : View) → can_be_sent op ≡ true → IsPast v.standing → IsLoose v.connection → IsReady v → IsFit (transfer_opened code op transfer v)
begun_fits code op transfer v can past loose r =
    let w : View = record v { connection = awaited v.connection } in
    cond_both (code == 110) v (with_reply Replies.Begun op transfer w) IsFit (λ is. ready_fit v r)
    (λ is. transfer_carries op (record transfer { replied = Replies.Begun }) w can past (awaited_loose v.connection loose)
    (record { sound = connected_sound (awaited v.connection) v (awaited_typed v.connection r.sound.port) r.sound; sendable = r.sendable; calm = r.calm; tied = tied_by (awaited v.connection) v.job (awaited_loose v.connection loose); room = r.room }))

noted_fits : (code : ℕ) (text : Text) (op : Op (List ℕ)) (transfer : Transfer) (v : View) → can_be_sent op ≡ true → IsPast v.standing → IsLoose v.connection → IsReady v → IsFit (noted code text op transfer v)
noted_fits code text op transfer v can past loose r =
    let marked : Transfer = record transfer { flow = marked_flow (mark_value text) transfer.flow } in
    cond_both (code == 110) (record v { job = Transferring op marked }) v IsFit (λ is. ready_fit (record v { job = Transferring op marked }) (transfer_ready op marked v can past loose r)) (λ is. ready_fit v r)

unless_ready : (connection : ClientLink) (v : View) → IsReady v → IsReady (unless_open connection v)
unless_ready Data.Open v r = r
unless_ready (Data.Over ending) v r = r
unless_ready Data.Free v r = closes_ready v r
unless_ready Data.ListenWanted v r = closes_ready v r
unless_ready (Data.Listening port) v r = closes_ready v r
unless_ready (Data.Connecting endpoint) v r = closes_ready v r
unless_ready (Data.Accepting port) v r = closes_ready v r

unless_past : (connection : ClientLink) (v : View) → IsPast v.standing → IsPast (unless_open connection v).standing
unless_past Data.Open v past = past
unless_past (Data.Over ending) v past = past
unless_past Data.Free v past = past
unless_past Data.ListenWanted v past = past
unless_past (Data.Listening port) v past = past
unless_past (Data.Connecting endpoint) v past = past
unless_past (Data.Accepting port) v past = past

unless_loose : (connection : ClientLink) (v : View) → v.connection ≡ connection → IsLoose (unless_open connection v).connection
unless_loose Data.Open v is = subst IsLoose (sym is) tt
unless_loose (Data.Over ending) v is = subst IsLoose (sym is) tt
unless_loose Data.Free v is = tt
unless_loose Data.ListenWanted v is = tt
unless_loose (Data.Listening port) v is = tt
unless_loose (Data.Connecting endpoint) v is = tt
unless_loose (Data.Accepting port) v is = tt

before_fits : (verdict : Verdict) (code : ℕ) (op : Op (List ℕ)) (transfer : Transfer) (v : View) → can_be_sent op ≡ true → IsPast v.standing → IsLoose v.connection → IsReady v → IsFit (before_opening verdict code op transfer v)
before_fits Preliminary code op transfer v can past loose r = begun_fits code op transfer v can past loose r
before_fits Negative code op transfer v can past loose r = transfer_carries op (record transfer { replied = Replies.Final code }) (closes v) can past tt (closes_ready v r)
before_fits Completion code op transfer v can past loose r = strange_fits v r
before_fits Intermediate code op transfer v can past loose r = strange_fits v r
before_fits Closing code op transfer v can past loose r = strange_fits v r
before_fits Displaced code op transfer v can past loose r = strange_fits v r

behind_fits : (verdict : Verdict) (code : ℕ) (text : Text) (op : Op (List ℕ)) (transfer : Transfer) (v : View) → can_be_sent op ≡ true → IsPast v.standing → IsLoose v.connection → IsReady v
    → IsFit (behind_opening verdict code text op transfer v)
behind_fits Preliminary code text op transfer v can past loose r = noted_fits code text op transfer v can past loose r
behind_fits Completion code text op transfer v can past loose r = transfer_carries op (record transfer { replied = Replies.Final code }) v can past loose r
behind_fits Negative code text op transfer v can past loose r =
    transfer_carries op (record transfer { replied = Replies.Final code }) (unless_open v.connection v) can (unless_past v.connection v past) (unless_loose v.connection v refl) (unless_ready v.connection v r)
behind_fits Intermediate code text op transfer v can past loose r = strange_fits v r
behind_fits Closing code text op transfer v can past loose r = strange_fits v r
behind_fits Displaced code text op transfer v can past loose r = strange_fits v r

abort_answered_fits : (abort : Abort) (verdict : Verdict) (op : Op (List ℕ)) (transfer : Transfer) (v : View) → can_be_sent op ≡ true → IsPast v.standing → IsLoose v.connection → IsReady v → IsFit (abort_answered abort verdict op transfer v)
abort_answered_fits Aborts.Sent Completion op transfer v can past loose r = transfer_carries op (record transfer { abort = Aborts.Answered }) v can past loose r
abort_answered_fits Aborts.Sent Preliminary op transfer v can past loose r = strange_fits v r
abort_answered_fits Aborts.Sent Intermediate op transfer v can past loose r = strange_fits v r
abort_answered_fits Aborts.Sent Negative op transfer v can past loose r = strange_fits v r
abort_answered_fits Aborts.Sent Closing op transfer v can past loose r = strange_fits v r
abort_answered_fits Aborts.Sent Displaced op transfer v can past loose r = strange_fits v r
abort_answered_fits Aborts.Unsent verdict op transfer v can past loose r = strange_fits v r
abort_answered_fits Aborts.Answered verdict op transfer v can past loose r = strange_fits v r

transfer_fits : (replied : Replied) (verdict : Verdict) (code : ℕ) (text : Text) (op : Op (List ℕ)) (transfer : Transfer) (v : View) → can_be_sent op ≡ true → IsPast v.standing → IsLoose v.connection → IsReady v
    → IsFit (transfer_answered replied verdict code text op transfer v)
transfer_fits Replies.Nothing verdict code text op transfer v can past loose r = before_fits verdict code op transfer v can past loose r
transfer_fits Replies.Begun verdict code text op transfer v can past loose r = behind_fits verdict code text op transfer v can past loose r
transfer_fits (Replies.Final before) verdict code text op transfer v can past loose r = abort_answered_fits transfer.abort verdict op transfer v can past loose r

-- ---- a reply

job_fits : (job : Job) (verdict : Verdict) (code : ℕ) (texts : List Text) (v : View) → v.job ≡ job → IsReady v → IsFit (job_answered job verdict code texts v)
job_fits (Doing op step) verdict code texts v is r =
    step_fits op step verdict code texts v (subst IsSendable is r.sendable) (doing_past v.standing op step (subst (IsCalmAt v.standing) is r.calm)) (subst (IsTied v.connection) is r.tied) r
job_fits (Transferring op transfer) verdict code texts v is r =
    transfer_fits transfer.replied verdict code (joined texts) op transfer v (subst IsSendable is r.sendable) (transfer_past v.standing op transfer (subst (IsCalmAt v.standing) is r.calm))
    (transfer_loose v.connection op transfer (subst (IsTied v.connection) is r.tied)) r
job_fits Idle verdict code texts v is r = strange_fits v r
job_fits (Waiting op) verdict code texts v is r = strange_fits v r
job_fits (Told answer) verdict code texts v is r = strange_fits v r

stand_fits : (standing : Standing) (verdict : Verdict) (code : ℕ) (texts : List Text) (v : View) → v.standing ≡ standing → IsReady v → IsFit (stand_answered standing verdict code texts v)
stand_fits Stands.Greeting verdict code texts v is r = greeted_fits verdict code v (subst (λ s. IsCalmAt s v.job) is r.calm) r
stand_fits Stands.User verdict code texts v is r = user_fits verdict v (subst (λ s. IsCalmAt s v.job) is r.calm) r
stand_fits Stands.Pass verdict code texts v is r = pass_fits verdict v r
stand_fits Stands.Entered verdict code texts v is r = job_fits v.job verdict code texts v refl r
stand_fits (Stands.Failed failure) verdict code texts v is r = ready_fit v r

judged_fits : (verdict : Verdict) (code : ℕ) (texts : List Text) (v : View) → IsReady v → IsFit (judged_reply verdict code texts v)
judged_fits Closing code texts v r = fails_fits Failures.Lost v (ready_fit v r)
judged_fits Displaced code texts v r = strange_fits v r
judged_fits Preliminary code texts v r = stand_fits v.standing Preliminary code texts v refl r
judged_fits Completion code texts v r = stand_fits v.standing Completion code texts v refl r
judged_fits Intermediate code texts v r = stand_fits v.standing Intermediate code texts v refl r
judged_fits Negative code texts v r = stand_fits v.standing Negative code texts v refl r

pub answered_fits : (code : ℕ) (texts : List Text) (v : View) → IsReady v → IsFit (answered code texts v)
unfolding answered
answered_fits code texts v r = judged_fits (verdict_of code) code texts v r
