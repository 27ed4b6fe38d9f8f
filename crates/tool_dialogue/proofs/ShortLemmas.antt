-- Octets whose lines may have failed for want of memory: what each leaves, and what is said of many.
use Rattle.std.proofs.Common.{◌≡◌, ◌≢◌, ◌⊎◌, ◌==◌, ℕ, ◌≤◌, ◌<◌, ◌+◌, inl, inr, Bool, true, false, not, ◌&&◌, ◌||◌, List, [], ◌∷◌, ◌++◌, length, take, get_or, None, Some, refl, sym, ap, subst, ◌∙◌, arith, append-nil, append_assoc, Option, Result, Ok, Err, OnErr}
use Rattle.std.specs.Prelude.{if◌then◌else◌}
use Rattle.std.proofs.lemmas.Bool.{eq-eqb}
use Rattle.std.proofs.lemmas.List.{take_more}
use Rattle.ftp_command.specs.declared.command.Command.{Command}
use Rattle.ftp_command.specs.declared.fault.CommandFault.TheVariants as Faults
use Rattle.ftp_ends.proofs.EventLemmas.{SaysOne, out_one}
use Rattle.ftp_ends.specs.Ear.{ear_out, ear_step}
use Rattle.ftp_nvt.specs.Lines.{NvtEvent, line, too_long, owed}
use Rattle.ftp_ports.proofs.Fronts.{AppendsFront-none}
use Rattle.ftp_ports.specs.Beginning.{AppendsFront}
use Rattle.ftp_server_model.proofs.LinesDecided.{reading_exists}
use Rattle.ftp_server_model.specs.Act.{forgets, is_transfer}
use Rattle.ftp_server_model.specs.Endpoint.{forgotten}
use Rattle.ftp_server_model.specs.Failing.{ActingFails, Counts, EventIsHeard, EventsAreHeard, KeepsCourse, Late, LineFails, LineIsHeard, OctetIsHeard, ReadingFails, as_ever, not_done, not_read}
use Rattle.ftp_server_model.specs.Far.{AreTold, Hears, Server}
use Rattle.ftp_server_model.specs.Machine.{IsReading, Reading, heard_event, heard_events, hears_octet, is_abor, is_abort, is_idle, has_room, obeyed}
use Rattle.ftp_server_model.specs.View.{Session, View, line_limit}
use Rattle.ftp_server_model.specs.declared.counts.Counts.{Counts as Told}
use Rattle.ftp_server_model.specs.declared.heard.HeardLine.{HeardLine}
use Rattle.ftp_server_model.specs.declared.heard.HeardLine.TheVariants.{TooLong, Bad, Asks}
use Rattle.ftp_server_model.specs.declared.session.Pending.TheVariants as Pendings
use Rattle.tool_dialogue.proofs.FreeLemmas.{Reached, and_false, line_reaches, obeyed_reaches, room_is, unbusy}
use Rattle.tool_dialogue.proofs.TalkLemmas.{talks-grow}
use Rattle.tool_dialogue.proofs.UnopenedLemmas.{Rests, Servable, calm}
use Rattle.tool_dialogue.specs.Dialogue.{Talk, is_refusal, runs, said, served_twice, talk_of, talks, told, turn}
use Rattle.tool_dialogue.specs.Free.{IsReadyForLine}
use Rattle.tool_dialogue.specs.Short.{BreaksInShort, IsAnsweredShort, Talks, Turns}

-- ---- what an octet leaves

-- an octet that is heard as ever
event_as_ever : (read : Reading) (event : NvtEvent) (v : View) → EventIsHeard read event v (heard_event read event v)
event_as_ever read (line text) v = as_ever refl
event_as_ever read too_long v = as_ever refl
event_as_ever read (owed answer) v = refl

-- and events that are
events_as_ever : (read : Reading) (events : List NvtEvent) (v : View) → EventsAreHeard read events v (heard_events read events v)
events_as_ever read [] v = refl
events_as_ever read (event ∷ events) v = (heard_event read event v, event_as_ever read event v, events_as_ever read events (heard_event read event v))

-- and one control octet
octet_as_ever : (read : Reading) (v : View) (octet : ℕ) → OctetIsHeard read v octet (hears_octet read v octet)
unfolding hears_octet
octet_as_ever read v octet = events_as_ever read (ear_out line_limit v.ear octet) (record v { ear = ear_step line_limit v.ear octet })

-- a command that failed leaves a data connection that can be served
forgets_can : (command : Command (List ℕ)) (s : Session) → Rests s → Servable (forgets command s).connection (forgets command s).closing
forgets_can command s rests = by (is_transfer command)
  where
    by : (b : Bool) → Servable (if b then forgotten s else s).connection (if b then forgotten s else s).closing
    by true = tt
    by false = calm s rests

-- so does a line that failed as it was acted on
lost_reaches : (heard : HeardLine (List ℕ)) (v w : View) → Rests v.session → v.waiting ≡ None → LineFails heard v w → Reached w
lost_reaches TooLong v w rests none lost = absurd lost
lost_reaches (Bad fault) v w rests none lost = absurd lost
lost_reaches (Asks command) v w rests none lost =
    subst Reached (sym lost.2) (record { waiting = none; can = forgets_can command (record v.session { pending = Pendings.Nothing }) rests })

-- a line that may have failed as it was acted on
late_reaches : (heard : HeardLine (List ℕ)) (v w : View) → Rests v.session → v.owed ≡ [] → Late (record v { waiting = Some heard }) w → Reached w
late_reaches heard v w rests silent (inl is) =
    subst Reached (sym is) (by (is_idle (record v { waiting = Some heard })) (ap (λ b. not b && has_room v) (unbusy v.session.connection v.session.closing rests).0 ∙ room_is v.owed silent))
  where
    by : (idle : Bool) → idle ≡ true → Reached (if idle then obeyed heard (record v { waiting = None }) else record v { waiting = Some heard })
    by true p = obeyed_reaches heard (record v { waiting = None }) rests refl
    by false p = absurd (let e : false ≡ true = p in cc)
late_reaches heard v w rests silent (inr fails) = lost_reaches heard (record v { waiting = None }) w rests refl fails.1

-- one that could not be read
unread_reaches : (heard : HeardLine (List ℕ)) (v w : View) → Rests v.session → v.waiting ≡ None → v.owed ≡ [] → ReadingFails heard v w → Reached w
unread_reaches (Asks command) v w rests none silent lost = subst Reached (sym lost.1) (line_reaches (Bad Faults.Memory) v rests none silent)
unread_reaches TooLong v w rests none silent lost = absurd lost
unread_reaches (Bad fault) v w rests none silent lost = absurd lost

-- one that failed as it was acted on, where nothing is under way that it could abort
acting_reaches : (aborts : Bool) (heard : HeardLine (List ℕ)) (v w : View) → aborts ≡ false → Rests v.session → v.owed ≡ [] → ActingFails aborts heard v w → Reached w
acting_reaches true heard v w is rests silent lost = absurd (let e : true ≡ false = is in cc)
acting_reaches false heard v w is rests silent lost = late_reaches heard v w rests silent lost

-- a whole line, however it was heard
line_heard_reaches : (heard : HeardLine (List ℕ)) (v w : View) → Rests v.session → v.waiting ≡ None → v.owed ≡ [] → LineIsHeard heard v w → Reached w
line_heard_reaches heard v w rests none silent (as_ever is) = subst Reached (sym is) (line_reaches heard v rests none silent)
line_heard_reaches heard v w rests none silent (not_read lost) = unread_reaches heard v w rests none silent lost
line_heard_reaches heard v w rests none silent (not_done lost) =
    acting_reaches (is_abort heard v) heard v w (ap (λ b. is_abor heard && b) (unbusy v.session.connection v.session.closing rests).1 ∙ and_false (is_abor heard)) rests silent lost

-- an event of the ear
event_heard_reaches : (read : Reading) (event : NvtEvent) (v w : View) → Rests v.session → v.waiting ≡ None → v.owed ≡ [] → EventIsHeard read event v w → Reached w
event_heard_reaches read (line text) v w rests none silent is = line_heard_reaches (read text) v w rests none silent is
event_heard_reaches read too_long v w rests none silent is = line_heard_reaches TooLong v w rests none silent is
event_heard_reaches read (owed answer) v w rests none silent is = subst Reached (sym is) (record { waiting = none; can = calm v.session rests })

-- and the events of one octet
events_heard_reach : (read : Reading) (events : List NvtEvent) (v w : View) → SaysOne events → Rests v.session → v.waiting ≡ None → v.owed ≡ [] → EventsAreHeard read events v w → Reached w
events_heard_reach read events v w (inl none) rests waits silent is =
    subst Reached (sym (subst (λ l. EventsAreHeard read l v w) none is)) (record { waiting = waits; can = calm v.session rests })
events_heard_reach read events v w (inr one) rests waits silent is =
    let so : EventsAreHeard read (one.0 ∷ []) v w = subst (λ l. EventsAreHeard read l v w) one.1 is in
    subst Reached (sym so.2) (event_heard_reaches read one.0 v so.0 rests waits silent so.1)

-- behind an octet that may have failed what is left to be done can be served
pub heard_short_reaches : (v w : View) (octet : ℕ) → IsReadyForLine v → runs v ≡ true → ((read : Reading) → IsReading read → OctetIsHeard read v octet w) → Reached w
heard_short_reaches v w octet free is heard =
    events_heard_reach reading_exists.0 (ear_out line_limit v.ear octet) (record v { ear = ear_step line_limit v.ear octet }) w (out_one line_limit v.ear octet)
    (free.rests is) free.waiting free.owed (heard reading_exists.0 reading_exists.1)

-- one octet was given, and one was heard, as ever where no count changed
pub one_heard_short : (octet count : ℕ) (old new : Server) → KeepsCourse old.counts new.counts → Hears (take count (octet ∷ [])) old new → count ≤ 1 → 0 < count
    → (new.counts ≡ old.counts) ⊎ (new.counts ≢ old.counts) → (read : Reading) → IsReading read → OctetIsHeard read old.view octet new.view
one_heard_short octet count old new course hears within some same read reading = by same
  where
    one : count ≡ 1
    one = omega (arith, within, some)

    did : Hears (octet ∷ []) old new
    did = subst (λ n. Hears (take n (octet ∷ [])) old new) one hears

    by : (new.counts ≡ old.counts) ⊎ (new.counts ≢ old.counts) → OctetIsHeard read old.view octet new.view
    by (inl is) = subst (λ w. OctetIsHeard read old.view octet w) (sym ((did read reading).done is)) (octet_as_ever read old.view octet)
    by (inr differ) =
        let heard = (did read reading).failed course differ in
        subst (λ w. OctetIsHeard read old.view octet w) (sym heard.3) heard.2

-- counts that are told otherwise are others
pub told_differ : (told now : Told) (old new : Counts) → AreTold told old → AreTold now new → ((now.refusals == told.refusals) && (now.failures == told.failures)) ≡ false → new ≡ old → ⊥
told_differ told now old new was are differ same =
    let refusals : now.refusals ≡ told.refusals = are.0 ∙ ap (λ (c : Counts). c.refusals) same ∙ sym was.0 in
    let failures : now.failures ≡ told.failures = are.1 ∙ ap (λ (c : Counts). c.failures.told) same ∙ sym was.1 in
    let alike : ((now.refusals == told.refusals) && (now.failures == told.failures)) ≡ true =
    ap (λ b. b && (now.failures == told.failures)) (eq-eqb _ _ refusals) ∙ eq-eqb _ _ failures in
    let e : true ≡ false = sym alike ∙ differ in cc

-- ---- turns

-- what was heard, served and said is a turn
pub turned_short : (read : Reading) (v heard mid new : View) (text more : List ℕ) (was is : Bool) (octet : ℕ) → runs v ≡ true → OctetIsHeard read v octet heard
    → mid ≡ served_twice heard → new ≡ said mid → more ≡ text ++ mid.owed → is ≡ (was || is_refusal mid.owed)
    → (before : List ℕ) → Turns read (talk_of v (before ++ text) was) octet (talk_of new (before ++ more) is)
turned_short read v heard mid new text more was is octet running hears serves says texts refuses before =
    inl (
      running,
      heard,
      hears,
      ap (λ w. talk_of w (before ++ more) is) says
          ∙ ap (λ l. talk_of (said mid) l is) (ap (λ l. before ++ l) texts ∙ sym (append_assoc before text mid.owed))
          ∙ ap (λ b. talk_of (said mid) ((before ++ text) ++ mid.owed) b) refuses
          ∙ ap (λ w. told w (talk_of v (before ++ text) was)) serves,
    )

-- a turn as ever is one
turns_as_ever : (read : Reading) (talk : Talk) (octet : ℕ) → Turns read talk octet (turn read talk octet)
unfolding turn
turns_as_ever read talk octet = by (runs talk.view) refl
  where
    by : (b : Bool) → runs talk.view ≡ b → Turns read talk octet (if b then told (served_twice (hears_octet read talk.view octet)) talk else talk)
    by true is = inl (is, hears_octet read talk.view octet, octet_as_ever read talk.view octet, refl)
    by false is = inr (is, refl)

-- and octets that are answered as ever
talks_as_ever : (read : Reading) (talk : Talk) (octets : List ℕ) → Talks read talk octets (talks read talk octets)
talks_as_ever read talk [] = refl
talks_as_ever read talk (octet ∷ octets) = (turn read talk octet, turns_as_ever read talk octet, talks_as_ever read (turn read talk octet) octets)

-- octets behind octets
pub Talks-append : (read : Reading) (talk mid last : Talk) (xs ys : List ℕ) → Talks read talk xs mid → Talks read mid ys last → Talks read talk (xs ++ ys) last
Talks-append read talk mid last [] ys one other = subst (λ t. Talks read t ys last) one other
Talks-append read talk mid last (x ∷ xs) ys one other = (one.0, one.1, Talks-append read one.0 mid last xs ys one.2 other)

-- one octet more of a piece
pub Talks_more : (read : Reading) (talk now next : Talk) (piece : List ℕ) (i : ℕ) → i < length piece → Talks read talk (take i piece) now
    → Turns read now (get_or piece i 0) next → Talks read talk (take (i + 1) piece) next
Talks_more read talk now next piece i in_it is turns =
    subst (λ l. Talks read talk l next) (sym (take_more piece i 0 in_it)) (Talks-append read talk now next (take i piece) (get_or piece i 0 ∷ []) is (next, turns, refl))

-- ---- a piece

-- answers to a piece are gathered from nothing
pub answered_short : (piece text cleared : List ℕ) (v w : View) (was is : Bool) → cleared ≡ []
    → ((read : Reading) → IsReading read → (before : List ℕ) → Talks read (talk_of v (before ++ cleared) was) piece (talk_of w (before ++ text) is))
    → IsAnsweredShort piece v was text w is
answered_short piece text cleared v w was is none heard = λ read reading before.
    subst (λ l. Talks read (talk_of v l was) piece (talk_of w (before ++ text) is)) (ap (λ l. before ++ l) none ∙ append-nil before) (heard read reading before)

-- a beginning of them was written
pub breaks_short : (piece text : List ℕ) (v w : View) (was is : Bool) (held holds : Option (List ℕ)) → IsAnsweredShort piece v was text w is → AppendsFront held holds text
    → (read : Reading) → IsReading read → (before : List ℕ) → BreaksInShort read piece v was before held holds
breaks_short piece text v w was is held holds answered front read reading before =
    record { last = talk_of w (before ++ text) is; answers = answered read reading before; rest = text; whole = refl; wrote = front }

-- or nothing was
pub unwritten_short : {T E : Type 0} (r : Result T E) (piece : List ℕ) (v : View) (was : Bool) (held : Option (List ℕ))
    → OnErr r ((read : Reading) → IsReading read → (before : List ℕ) → BreaksInShort read piece v was before held held)
unwritten_short (Ok x) piece v was held = tt
unwritten_short (Err e) piece v was held = λ read reading before.
    let more = talks-grow read (talk_of v before was) piece in record {
      last = talks read (talk_of v before was) piece;
      answers = talks_as_ever read (talk_of v before was) piece;
      rest = more.0;
      whole = more.1;
      wrote = AppendsFront-none held more.0;
    }
