-- What each call leaves fit: a lemma for each definition of `Calls` of `ftp_client_model`.
use Rattle.std.proofs.Common.{◌≡◌, ℕ, ◌+◌, ◌*◌, ◌≤◌, ◌<◌, inl, inr, List, [], ◌∷◌, ◌++◌, Bool, true, false, Option, Some, None, refl, sym, ap, subst, ◌∙◌, arith, length, length-append, true≢false}
use Rattle.std.specs.Prelude.{drop, nat_le, if◌then◌else◌, ◌==◌}
use Rattle.std.proofs.lemmas.Bool.{and_parts, cond_both, leb-true}
use Rattle.std.proofs.lemmas.List.{length-drop}
use Rattle.std.proofs.lemmas.List.Sums.{sum_by-cons}
use Rattle.ftp_endpoint.specs.declared.host.Host.{Host}
use Rattle.ftp_ends.specs.Ear.{ear_out, ear_step}
use Rattle.ftp_ends.specs.Link.{same_host}
use Rattle.ftp_nvt.specs.Lines.{NvtEvent, line, too_long, owed}
use Rattle.ftp_operation.specs.Answer.{BadOperation, Unopened}
use Rattle.ftp_operation.specs.Operation.{can_be_sent}
use Rattle.ftp_operation.specs.declared.op.Op.{Op}
use Rattle.ftp_reply.specs.Lines.{Text, are_within, octets_of}
use Rattle.ftp_reply.specs.Reader.{Gathered, Between, Begun, Heard, GoesOn, Says, Faulty, code_in_front, first_heard, is_last, line_heard, next_heard, opened, reply_placed}
use Rattle.ftp_reply.specs.Reply.{hyphen, space}
use Rattle.ftp_reply.specs.declared.fault.ReplyFault.TheVariants as Faults
use Rattle.ftp_client_model.specs.Calls.{accepted, begun, connected, data_closed, data_end, data_fault, data_opened, data_refused, ending_of, event_taken, events_taken, gives_control, gives_data, goes_by, heard_by, heard_flow, hears_octet, is_busy_job, is_sound, line_taken, listen_refused, listening, listening_by, may_hear, no_port_by, opened_by, over_by, port_told, receives_octet, reply_limit, reported_by, reports, started_by, unless_closing, unopened_by, unsendable_by, went}
use Rattle.ftp_client_model.specs.Dialogue.{carries_on}
use Rattle.ftp_client_model.specs.Held.{gathered_len, texts_len}
use Rattle.ftp_client_model.specs.Plan.{next_step}
use Rattle.ftp_client_model.specs.Tries.{Run}
use Rattle.ftp_client_model.specs.View.{Flow, Job, Idle, Waiting, Doing, Transferring, Told, Transfer, View, failure_said}
use Rattle.ftp_client_model.specs.declared.client.ClientLink.{ClientLink}
use Rattle.ftp_client_model.specs.declared.client.ClientLink.TheVariants as Data
use Rattle.ftp_client_model.specs.declared.client.Ending.{Ending}
use Rattle.ftp_client_model.specs.declared.client.Ending.TheVariants as Endings
use Rattle.ftp_client_model.specs.declared.client.Standing.{Standing}
use Rattle.ftp_client_model.specs.declared.client.Standing.TheVariants as Stands
use Rattle.ftp_client_model.specs.declared.client.Step.{Step}
use Rattle.ftp_client_model.specs.declared.client.Step.TheVariants as Steps
use Rattle.ftp_client_model.specs.Fit.{IsCalmAt, IsDialling, IsFit, IsListening, IsSendable, IsSendableRun, IsSoundLogin, IsSoundView, IsTied, IsTypedPort, commands_next, next_of_idle}
use Rattle.ftp_client_model.proofs.DialogueLemmas.{IsReady, aborts_fits, answered_fits, calm_of, carries_fits, connected_sound, doing_past, finishes_fits, fit_ready, next_le, ready_fit, strange_fits, tells_fits, transfer_past, transfer_loose}
use Rattle.ftp_ends.proofs.EventLemmas.{IsSmallEvent, out_one}
use Rattle.ftp_ends.proofs.ReadLemmas.{ear_short}
use Rattle.ftp_client_model.proofs.CommandLemmas.{IsLoose, IsPast, begins_fits, calm_past, goes_fits, loose_by, loose_for, tied_by}

-- ---- start and report

-- with another run
run_sound : (run : Option Run) (v : View) → IsSendableRun run → IsSoundView v → IsSoundLogin v.user v.pass v.here run v.connection v.ear v.gathered
run_sound run v sendable k = record { user_fits = k.user_fits; pass_fits = k.pass_fits; host = k.host; sendable = sendable; port = k.port; reading = k.reading; reply = k.reply }

idle_loose : (v : View) → v.job ≡ Idle → IsFit v → IsLoose v.connection
idle_loose v idle k = loose_by v.connection Idle (subst (IsTied v.connection) idle k.tied) (λ is. is) (λ is. is)

idle_room : (v : View) → v.job ≡ Idle → IsFit v → length v.owed + 2200 * next_of_idle v.standing ≤ 3227
idle_room v idle k = subst (λ (job : Job). length v.owed + 2200 * commands_next v.standing job ≤ 3227) idle k.room

pub waits_fits : (run : Option Run) (op : Op (List ℕ)) (v : View) → v.job ≡ Idle → IsSendableRun run → can_be_sent op ≡ true → IsFit v → IsFit (record v { job = Waiting op; run = run })
waits_fits run op v idle sendable can k = record {
  sound = run_sound run v sendable k.sound;
  sendable = can;
  calm = calm_of v.standing (Waiting op) tt;
  tied = tied_by v.connection (Waiting op) (idle_loose v idle k);
  room = omega (arith, k.room);
}

started_fits : (standing : Standing) (run : Option Run) (op : Op (List ℕ)) (v : View) → v.standing ≡ standing → v.job ≡ Idle → IsSendableRun run → can_be_sent op ≡ true → IsFit v
    → IsFit (started_by standing op (record v { run = run }))
started_fits Stands.Entered run op v is idle sendable can k =
    let past : IsPast v.standing = subst IsPast (sym is) tt in
    let one : next_of_idle v.standing ≡ 1 = ap next_of_idle is in
    begins_fits op (record v { run = run }) can (run_sound run v sendable k.sound) past (idle_loose v idle k) (omega (arith, idle_room v idle k, one))
started_fits (Stands.Failed failure) run op v is idle sendable can k =
    tells_fits (failure_said failure) (record v { run = run }) (run_sound run v sendable k.sound) (idle_loose v idle k) (idle_room v idle k)
started_fits Stands.Greeting run op v is idle sendable can k = waits_fits run op v idle sendable can k
started_fits Stands.User run op v is idle sendable can k = waits_fits run op v idle sendable can k
started_fits Stands.Pass run op v is idle sendable can k = waits_fits run op v idle sendable can k

unsendable_fits : (standing : Standing) (v : View) → v.job ≡ Idle → IsFit v → IsFit (unsendable_by standing v)
unsendable_fits (Stands.Failed failure) v idle k = tells_fits (failure_said failure) v k.sound (idle_loose v idle k) (idle_room v idle k)
unsendable_fits Stands.Greeting v idle k = tells_fits BadOperation v k.sound (idle_loose v idle k) (idle_room v idle k)
unsendable_fits Stands.User v idle k = tells_fits BadOperation v k.sound (idle_loose v idle k) (idle_room v idle k)
unsendable_fits Stands.Pass v idle k = tells_fits BadOperation v k.sound (idle_loose v idle k) (idle_room v idle k)
unsendable_fits Stands.Entered v idle k = tells_fits BadOperation v k.sound (idle_loose v idle k) (idle_room v idle k)

pub begun_fits : (run : Option Run) (op : Op (List ℕ)) (v : View) → v.job ≡ Idle → (can_be_sent op ≡ true → IsSendableRun run) → IsFit v → IsFit (begun run op v)
begun_fits run op v idle sendable k =
    cond_both (can_be_sent op) (started_by v.standing op (record v { run = run })) (unsendable_by v.standing v) IsFit
    (λ can. started_fits v.standing run op v refl idle (sendable can) can k) (λ can. unsendable_fits v.standing v idle k)

pub idle_of : (job : Job) → is_busy_job job ≡ false → job ≡ Idle
idle_of Idle is = refl
idle_of (Waiting op) is = absurd (true≢false is)
idle_of (Doing op step) is = absurd (true≢false is)
idle_of (Transferring op transfer) is = absurd (true≢false is)
idle_of (Told answer) is = absurd (true≢false is)

reported_fits : (job : Job) (v : View) → v.job ≡ job → IsFit v → IsFit (reported_by job v)
reported_fits (Told answer) v is k = record {
  sound = k.sound;
  sendable = tt;
  calm = calm_of v.standing Idle tt;
  tied = tied_by v.connection Idle (loose_by v.connection (Told answer) (subst (IsTied v.connection) is k.tied) (λ is. is) (λ is. is));
  room = subst (λ (job : Job). length v.owed + 2200 * commands_next v.standing job ≤ 3227) is k.room;
}
reported_fits Idle v is k = k
reported_fits (Waiting op) v is k = k
reported_fits (Doing op step) v is k = k
reported_fits (Transferring op transfer) v is k = k

pub reports_fits : (v : View) → IsFit v → IsFit (reports v)
reports_fits v k = reported_fits v.job v refl k

-- ---- the control connection

texts_same : (texts : List Text) → texts_len texts ≡ octets_of texts
texts_same [] = refl
texts_same (text ∷ texts) = ap (λ n. length text + n) (texts_same texts) ∙ sym (sum_by-cons length text texts)

abbrev IsSmallHeard : Heard → Type 0
IsSmallHeard (GoesOn gathered) = gathered_len gathered ≤ 8192
IsSmallHeard heard = Unit {0}

placed_small : (within ends : Bool) (code : ℕ) (texts : List Text) → are_within texts ≡ within → IsSmallHeard (if within then (if ends then Says code texts else GoesOn (Begun code texts)) else Faulty Faults.TooMany)
placed_small true true code texts is = tt
placed_small true false code texts is = omega (arith, texts_same texts, leb-true (octets_of texts) 8192 (and_parts _ (nat_le (octets_of texts) 8192) is).1)
placed_small false ends code texts is = tt

place_small : (ends : Bool) (code : ℕ) (texts : List Text) → IsSmallHeard (reply_placed ends code texts)
place_small ends code texts = placed_small (are_within texts) ends code texts refl

first_small : (code : ℕ) (text : Text) → IsSmallHeard (first_heard code text)
first_small code [] = place_small true code ([] ∷ [])
first_small code (c ∷ text) =
    cond_both (c == space) (reply_placed true code (text ∷ [])) (if c == hyphen then reply_placed false code (text ∷ []) else Faulty Faults.BadCode) IsSmallHeard (λ is. place_small true code (text ∷ []))
    (λ is. cond_both (c == hyphen) (reply_placed false code (text ∷ [])) (Faulty Faults.BadCode) IsSmallHeard (λ is. place_small false code (text ∷ [])) (λ is. tt))

opened_small : (code : Option ℕ) (text : Text) → IsSmallHeard (opened code text)
opened_small None text = tt
opened_small (Some code) text = first_small code (drop 3 text)

next_small : (last : Bool) (code : ℕ) (texts : List Text) (text : Text) → IsSmallHeard (next_heard last code texts text)
next_small true code texts text = place_small true code (texts ++ drop 4 text ∷ [])
next_small false code texts text = place_small false code (texts ++ text ∷ [])

heard_small : (gathered : Gathered) (text : Text) → IsSmallHeard (line_heard gathered text)
unfolding line_heard
heard_small Between text = opened_small (code_in_front text) text
heard_small (Begun code texts) text = next_small (is_last code text) code texts text

-- with another reply that came
gathered_sound : (gathered : Gathered) (v : View) → gathered_len gathered ≤ 8192 → IsSoundView v → IsSoundLogin v.user v.pass v.here v.run v.connection v.ear gathered
gathered_sound gathered v small k = record { user_fits = k.user_fits; pass_fits = k.pass_fits; host = k.host; sendable = k.sendable; port = k.port; reading = k.reading; reply = small }

gathered_ready : (gathered : Gathered) (v : View) → gathered_len gathered ≤ 8192 → IsReady v → IsReady (record v { gathered = gathered })
gathered_ready gathered v small r = record { sound = gathered_sound gathered v small r.sound; sendable = r.sendable; calm = r.calm; tied = r.tied; room = r.room }

line_fits : (heard : Heard) (v : View) → IsSmallHeard heard → IsReady v → IsFit (line_taken heard v)
line_fits (GoesOn gathered) v small r = ready_fit (record v { gathered = gathered }) (gathered_ready gathered v small r)
line_fits (Says code texts) v small r = answered_fits code texts (record v { gathered = Between }) (gathered_ready Between v (omega arith) r)
line_fits (Faulty fault) v small r = strange_fits v r

event_fits : (event : NvtEvent) (v : View) → IsSmallEvent event → length v.owed ≤ 1024 → IsReady v → IsFit (event_taken event v)
event_fits (line text) v small few r = line_fits (line_heard v.gathered text) v (heard_small v.gathered text) r
event_fits too_long v small few r = strange_fits v r
event_fits (owed answer) v small few r = record {
  sound = r.sound;
  sendable = r.sendable;
  calm = r.calm;
  tied = r.tied;
  room = omega (arith, length-append v.owed answer, small, few, next_le v.standing v.job);
}

pub hears_fits : (v : View) (octet : ℕ) → may_hear v ≡ true → IsFit v → IsFit (hears_octet v octet)
hears_fits v octet may k =
    let few = leb-true (length v.owed) 1024 (and_parts (is_sound v.standing) (nat_le (length v.owed) 1024) may).1 in
    let s = k.sound in
    let w : View = record v { ear = ear_step reply_limit v.ear octet } in
    let r : IsReady w = record {
      sound = record { user_fits = s.user_fits; pass_fits = s.pass_fits; host = s.host; sendable = s.sendable; port = s.port; reading = ear_short reply_limit v.ear octet s.reading; reply = s.reply };
      sendable = k.sendable;
      calm = k.calm;
      tied = k.tied;
      room = omega (arith, few);
    } in
    let P : List NvtEvent → Type 0 = λ events. IsFit (events_taken events w) in
    elim (out_one reply_limit v.ear octet) as (λ _. P (ear_out reply_limit v.ear octet)) [
      | inl e ↦ subst P (sym e) (ready_fit w r)
      | inr e ↦ subst P (sym e.1) (event_fits e.0 w e.2 few r)
    ]

pub control_fits : (count : ℕ) (v : View) → IsFit v → IsFit (gives_control count v)
control_fits count v k = record { sound = k.sound; sendable = k.sendable; calm = k.calm; tied = k.tied; room = omega (arith, length-drop count v.owed, k.room) }

-- ---- the data connection

pub unless_fits : (f : View → View) (v : View) → IsFit v → IsFit (f v) → IsFit (unless_closing f v)
unless_fits f v k done = cond_both v.closing v (f v) IsFit (λ is. k) (λ is. done)

-- the connection in another state, in which nothing is wanted of it
pub connected_fits : (connection : ClientLink) (v : View) → IsTypedPort connection → IsTied connection v.job → IsFit v → IsFit (record v { connection = connection })
connected_fits connection v typed tied k = record { sound = connected_sound connection v typed k.sound; sendable = k.sendable; calm = k.calm; tied = tied; room = k.room }

listen_step : (step : Step) (op : Op (List ℕ)) (port : ℕ) (v : View) → v.job ≡ Doing op step → port < 65536 → IsFit v → IsFit (listening_by Data.ListenWanted (Doing op step) port v)
listen_step Steps.Listen op port v is small k =
    let r = fit_ready v k (ap (commands_next v.standing) is) in
    goes_fits op Steps.Listen (record v { connection = Data.Listening port }) (subst IsSendable is k.sendable) (connected_sound (Data.Listening port) v small k.sound)
    (doing_past v.standing op Steps.Listen (subst (IsCalmAt v.standing) is k.calm)) tt r.room
listen_step Steps.Kind op port v is small k = k
listen_step Steps.Structure op port v is small k = k
listen_step Steps.Mode op port v is small k = k
listen_step Steps.Port op port v is small k = k
listen_step Steps.Passive op port v is small k = k
listen_step Steps.Connect op port v is small k = k
listen_step Steps.Restart op port v is small k = k
listen_step Steps.Source op port v is small k = k
listen_step Steps.Last op port v is small k = k

listening_fits : (connection : ClientLink) (job : Job) (port : ℕ) (v : View) → v.job ≡ job → port < 65536 → IsFit v → IsFit (listening_by connection job port v)
listening_fits Data.ListenWanted (Doing op step) port v is small k = listen_step step op port v is small k
listening_fits Data.ListenWanted Idle port v is small k = k
listening_fits Data.ListenWanted (Waiting op) port v is small k = k
listening_fits Data.ListenWanted (Transferring op transfer) port v is small k = k
listening_fits Data.ListenWanted (Told answer) port v is small k = k
listening_fits Data.Free job port v is small k = k
listening_fits (Data.Listening other) job port v is small k = k
listening_fits (Data.Connecting endpoint) job port v is small k = k
listening_fits (Data.Accepting other) job port v is small k = k
listening_fits Data.Open job port v is small k = k
listening_fits (Data.Over ending) job port v is small k = k

listened_fits : (port : ℕ) (v : View) → port < 65536 → IsFit v → IsFit (listening port v)
unfolding listening
listened_fits port v small k = unless_fits (λ v. listening_by v.connection v.job port v) v k (listening_fits v.connection v.job port v refl small k)

-- where a port or a link is wanted a command may follow
listening_next : (standing : Standing) (job : Job) → IsListening job → commands_next standing job ≡ 1
listening_next standing (Doing op Steps.Listen) is = refl
listening_next standing (Doing op Steps.Kind) is = absurd is
listening_next standing (Doing op Steps.Structure) is = absurd is
listening_next standing (Doing op Steps.Mode) is = absurd is
listening_next standing (Doing op Steps.Port) is = absurd is
listening_next standing (Doing op Steps.Passive) is = absurd is
listening_next standing (Doing op Steps.Connect) is = absurd is
listening_next standing (Doing op Steps.Restart) is = absurd is
listening_next standing (Doing op Steps.Source) is = absurd is
listening_next standing (Doing op Steps.Last) is = absurd is
listening_next standing Idle is = absurd is
listening_next standing (Waiting op) is = absurd is
listening_next standing (Transferring op transfer) is = absurd is
listening_next standing (Told answer) is = absurd is

dialling_next : (standing : Standing) (job : Job) → IsDialling job → commands_next standing job ≡ 1
dialling_next standing (Doing op Steps.Connect) is = refl
dialling_next standing (Doing op Steps.Kind) is = absurd is
dialling_next standing (Doing op Steps.Structure) is = absurd is
dialling_next standing (Doing op Steps.Mode) is = absurd is
dialling_next standing (Doing op Steps.Port) is = absurd is
dialling_next standing (Doing op Steps.Passive) is = absurd is
dialling_next standing (Doing op Steps.Listen) is = absurd is
dialling_next standing (Doing op Steps.Restart) is = absurd is
dialling_next standing (Doing op Steps.Source) is = absurd is
dialling_next standing (Doing op Steps.Last) is = absurd is
dialling_next standing Idle is = absurd is
dialling_next standing (Waiting op) is = absurd is
dialling_next standing (Transferring op transfer) is = absurd is
dialling_next standing (Told answer) is = absurd is

no_port_fits : (connection : ClientLink) (v : View) → v.connection ≡ connection → IsFit v → IsFit (no_port_by connection v)
no_port_fits Data.ListenWanted v is k = finishes_fits Unopened v tt (fit_ready v k (listening_next v.standing v.job (subst (λ c. IsTied c v.job) is k.tied)))
no_port_fits Data.Free v is k = k
no_port_fits (Data.Listening port) v is k = k
no_port_fits (Data.Connecting endpoint) v is k = k
no_port_fits (Data.Accepting port) v is k = k
no_port_fits Data.Open v is k = k
no_port_fits (Data.Over ending) v is k = k

pub refused_port_fits : (v : View) → IsFit v → IsFit (listen_refused v)
unfolding listen_refused
refused_port_fits v k = unless_fits (λ v. no_port_by v.connection v) v k (no_port_fits v.connection v refl k)

-- a client that is told a port stays fit, of port 0 too
pub port_told_fits : (port : ℕ) (v : View) → port < 65536 → IsFit v → IsFit (port_told port v)
port_told_fits port v small k = cond_both (port == 0) (listen_refused v) (listening port v) IsFit (λ is. refused_port_fits v k) (λ is. listened_fits port v small k)

connect_step : (step : Step) (op : Op (List ℕ)) (v : View) → v.job ≡ Doing op step → IsFit v → IsFit (connected (Doing op step) v)
connect_step Steps.Connect op v is k =
    let r = fit_ready v k (ap (commands_next v.standing) is) in
    let w : View = record v { connection = Data.Open } in
    goes_fits op Steps.Connect w (subst IsSendable is k.sendable) (connected_sound Data.Open v tt k.sound) (doing_past v.standing op Steps.Connect (subst (IsCalmAt v.standing) is k.calm))
    (loose_for (next_step w.settings op Steps.Connect) Data.Open tt) r.room
connect_step Steps.Listen op v is k = k
connect_step Steps.Kind op v is k = k
connect_step Steps.Structure op v is k = k
connect_step Steps.Mode op v is k = k
connect_step Steps.Port op v is k = k
connect_step Steps.Passive op v is k = k
connect_step Steps.Restart op v is k = k
connect_step Steps.Source op v is k = k
connect_step Steps.Last op v is k = k

connect_fits : (job : Job) (v : View) → v.job ≡ job → IsFit v → IsFit (connected job v)
connect_fits (Doing op step) v is k = connect_step step op v is k
connect_fits Idle v is k = k
connect_fits (Waiting op) v is k = k
connect_fits (Transferring op transfer) v is k = k
connect_fits (Told answer) v is k = k

over_carries : (connection : ClientLink) (closing : Bool) (v : View) → IsLoose connection → IsTypedPort connection → IsFit v → IsFit (carries_on (record v { connection = connection; closing = closing }))
over_carries connection closing v loose typed k =
    carries_fits (record v { connection = connection; closing = closing })
    (record { sound = connected_sound connection v typed k.sound; sendable = k.sendable; calm = k.calm; tied = tied_by connection v.job loose; room = k.room })

accepts_fits : (is_peer : Bool) (v : View) → IsFit v → IsFit (accepted is_peer v)
accepts_fits true v k = over_carries Data.Open v.closing v tt tt k
accepts_fits false v k = over_carries (Data.Over Endings.Foreign) true v tt tt k

opens_fits : (connection : ClientLink) (host : Host) (v : View) → IsFit v → IsFit (opened_by connection host v)
opens_fits (Data.Connecting endpoint) host v k = connect_fits v.job v refl k
opens_fits (Data.Accepting port) host v k = accepts_fits (same_host host v.peer) v k
opens_fits Data.Free host v k = k
opens_fits Data.ListenWanted host v k = k
opens_fits (Data.Listening port) host v k = k
opens_fits Data.Open host v k = k
opens_fits (Data.Over ending) host v k = k

pub opened_fits : (host : Host) (v : View) → IsFit v → IsFit (data_opened host v)
unfolding data_opened
opened_fits host v k = unless_fits (λ v. opened_by v.connection host v) v k (opens_fits v.connection host v k)

unopened_fits : (connection : ClientLink) (v : View) → v.connection ≡ connection → IsFit v → IsFit (unopened_by connection v)
unopened_fits (Data.Connecting endpoint) v is k = finishes_fits Unopened v tt (fit_ready v k (dialling_next v.standing v.job (subst (λ c. IsTied c v.job) is k.tied)))
unopened_fits (Data.Accepting port) v is k = over_carries (Data.Over Endings.Broken) true v tt tt k
unopened_fits Data.Free v is k = k
unopened_fits Data.ListenWanted v is k = k
unopened_fits (Data.Listening port) v is k = k
unopened_fits Data.Open v is k = k
unopened_fits (Data.Over ending) v is k = k

pub refused_fits : (v : View) → IsFit v → IsFit (data_refused v)
unfolding data_refused
refused_fits v k = unless_fits (λ v. unopened_by v.connection v) v k (unopened_fits v.connection v refl k)

over_fits : (connection : ClientLink) (ending : Ending) (v : View) → IsFit v → IsFit (over_by connection ending v)
over_fits Data.Open ending v k = over_carries (Data.Over ending) v.closing v tt tt k
over_fits Data.Free ending v k = k
over_fits Data.ListenWanted ending v k = k
over_fits (Data.Listening port) ending v k = k
over_fits (Data.Connecting endpoint) ending v k = k
over_fits (Data.Accepting port) ending v k = k
over_fits (Data.Over other) ending v k = k

pub ended_fits : (v : View) → IsFit v → IsFit (data_end v)
unfolding data_end
ended_fits v k = unless_fits (λ v. over_by v.connection (ending_of v.job) v) v k (over_fits v.connection (ending_of v.job) v k)

pub broke_fits : (v : View) → IsFit v → IsFit (data_fault v)
unfolding data_fault
broke_fits v k = unless_fits (λ v. over_by v.connection Endings.Broken v) v k (over_fits v.connection Endings.Broken v k)

pub closed_fits : (v : View) → IsFit v → IsFit (data_closed v)
closed_fits v k = record { sound = k.sound; sendable = k.sendable; calm = k.calm; tied = k.tied; room = k.room }

-- ---- the octets of the data connection

-- a transfer with other octets
flow_fits : (op : Op (List ℕ)) (transfer : Transfer) (flow : Flow) (v : View) → v.job ≡ Transferring op transfer → IsFit v → IsFit (record v { job = Transferring op (record transfer { flow = flow }) })
flow_fits op transfer flow v is k =
    let now : Job = Transferring op (record transfer { flow = flow }) in
    record {
      sound = k.sound;
      sendable = subst IsSendable is k.sendable;
      calm = calm_past v.standing now (transfer_past v.standing op transfer (subst (IsCalmAt v.standing) is k.calm));
      tied = tied_by v.connection now (transfer_loose v.connection op transfer (subst (IsTied v.connection) is k.tied));
      room = subst (λ (job : Job). length v.owed + 2200 * commands_next v.standing job ≤ 3227) is k.room;
    }

heard_fits : (job : Job) (octet : ℕ) (v : View) → v.job ≡ job → IsFit v → IsFit (heard_by job octet v)
heard_fits (Transferring op transfer) octet v is k =
    let flow : Flow = heard_flow transfer.abort transfer.flow octet in
    aborts_fits (Transferring op (record transfer { flow = flow })) (record v { job = Transferring op (record transfer { flow = flow }) }) refl (flow_fits op transfer flow v is k)
heard_fits Idle octet v is k = k
heard_fits (Waiting op) octet v is k = k
heard_fits (Doing op step) octet v is k = k
heard_fits (Told answer) octet v is k = k

pub receives_fits : (v : View) (octet : ℕ) → IsFit v → IsFit (receives_octet v octet)
receives_fits v octet k = heard_fits v.job octet v refl k

goes_by_fits : (count : ℕ) (job : Job) (v : View) → v.job ≡ job → IsFit v → IsFit (goes_by count job v)
goes_by_fits count (Transferring op transfer) v is k = carries_fits (record v { job = Transferring op (record transfer { flow = went count transfer.flow }) }) (flow_fits op transfer (went count transfer.flow) v is k)
goes_by_fits count Idle v is k = k
goes_by_fits count (Waiting op) v is k = k
goes_by_fits count (Doing op step) v is k = k
goes_by_fits count (Told answer) v is k = k

pub gives_fits : (count : ℕ) (v : View) → IsFit v → IsFit (gives_data count v)
unfolding gives_data
gives_fits count v k = goes_by_fits count v.job v refl k
