-- Control octets, one after another.
use Rattle.std.proofs.Common.{◌≡◌, inl, inr, ℕ, ◌+◌, ◌<◌, take, length, get_or, zero, suc, arith, true, false, List, [], ◌∷◌, ◌++◌, Some, Result, Ok, Err, OnOk, OnErr, refl, sym, ap, subst, ◌∙◌}
use Rattle.std.specs.Result.{is_err}
use Rattle.std.proofs.lemmas.List.{take_more}
use Rattle.ftp_command.specs.declared.fault.CommandFault.{CommandFault}
use Rattle.ftp_command.specs.declared.fault.CommandFault.TheVariants.{Memory}
use Rattle.ftp_nvt.specs.Lines.{NvtEvent, line, too_long, owed}
use Rattle.ftp_ends.specs.Ear.{ear_out, ear_step}
use Rattle.ftp_server_model.specs.Failing.{AbortFails, ActingFails, AreHeard, EventIsHeard, EventsAreHeard, LineIsHeard, as_ever, not_read, not_done, OctetIsHeard}
use Rattle.ftp_server_model.specs.Machine.{IsReading, MayHear, Reading, aborted, heard_event, heard_events, heard_line, hears, hears_octet, is_abort, later, may_hear}
use Rattle.ftp_server_model.specs.View.{View, line_limit}
use Rattle.ftp_server_model.specs.declared.heard.HeardLine.{HeardLine}
use Rattle.ftp_server_model.specs.declared.heard.HeardLine.TheVariants.{TooLong, Bad, Asks}
use Rattle.ftp_server.specs.HearsTo.{AreHeardTo, HearsTo}
use Rattle.ftp_server.specs.Reading.{SaysTextCommand}

-- ---- results

pub on_ok : {T E : Type 0} {P Q : Type 0} (r : Result T E) → (P → Q) → OnOk r P → OnOk r Q
on_ok (Ok x) f p = f p
on_ok (Err e) f p = tt

pub on_err : {T E : Type 0} {P Q : Type 0} (r : Result T E) → (P → Q) → OnErr r P → OnErr r Q
on_err (Ok x) f p = tt
on_err (Err e) f p = f p

-- ---- a line

pub line_aborts : (heard : HeardLine (List ℕ)) (v : View) → is_abort heard v ≡ true → aborted v ≡ heard_line heard v
line_aborts heard v e = rw e refl

pub line_waits : (heard : HeardLine (List ℕ)) (v : View) → is_abort heard v ≡ false → later (record v { waiting = Some heard }) ≡ heard_line heard v
line_waits heard v e = rw e refl

pub abort_fails : (heard : HeardLine (List ℕ)) (v w : View) → is_abort heard v ≡ true → AbortFails v.session.connection v w → ActingFails (is_abort heard v) heard v w
abort_fails heard v w e h = subst (λ b. ActingFails b heard v w) (sym e) h

-- a line that says no command is answered whatever memory there is
pub bad_is_heard : {T E C : Type 0} (r : Result T E) (fault : CommandFault) (v w : View) → OnOk r (C → w ≡ heard_line (Bad fault) v)
    → OnErr r (C → ActingFails (is_abort (Bad fault) v) (Bad fault) v w) → C → w ≡ heard_line (Bad fault) v
bad_is_heard (Ok x) fault v w done lost course = done course
bad_is_heard (Err e) fault v w done lost course = by (lost course)
  where
    by : ActingFails (is_abort (Bad fault) v) (Bad fault) v w → w ≡ heard_line (Bad fault) v
    by (inl is) = is
    by (inr h) = absurd h.1

pub line_not_read : (heard : HeardLine (List ℕ)) (v w : View) → SaysTextCommand heard → w ≡ heard_line (Bad Memory) v → LineIsHeard heard v w
line_not_read (Asks command) v w holds is = not_read (holds, is)
line_not_read (Bad fault) v w holds is = absurd holds
line_not_read TooLong v w holds is = absurd holds

pub line_not_done : (heard other : HeardLine (List ℕ)) (v w : View) → heard ≡ other → ActingFails (is_abort heard v) heard v w → LineIsHeard other v w
line_not_done heard other v w e h = subst (λ x. LineIsHeard x v w) e (not_done h)

-- ---- an octet

-- of one event
pub one_event : (read : Reading) (event : NvtEvent) (events : List NvtEvent) (v w : View) → event ∷ [] ≡ events → EventIsHeard read event v w → EventsAreHeard read events v w
one_event read event events v w e h = subst (λ l. EventsAreHeard read l v w) e (w, h, refl)

event_as_ever : (read : Reading) (event : NvtEvent) (v : View) → EventIsHeard read event v (heard_event read event v)
event_as_ever read (line text) v = as_ever refl
event_as_ever read too_long v = as_ever refl
event_as_ever read (owed answer) v = refl

events_as_ever : (read : Reading) (events : List NvtEvent) (v : View) → EventsAreHeard read events v (heard_events read events v)
events_as_ever read [] v = refl
events_as_ever read (event ∷ events) v = (heard_event read event v, event_as_ever read event v, events_as_ever read events (heard_event read event v))

octet_as_ever : (read : Reading) (v : View) (octet : ℕ) → OctetIsHeard read v octet (hears_octet read v octet)
unfolding hears_octet
octet_as_ever read v octet = events_as_ever read (ear_out line_limit v.ear octet) (record v { ear = ear_step line_limit v.ear octet })

-- ---- octets

hears_append : (read : Reading) (v : View) (front back : List ℕ) → hears read v (front ++ back) ≡ hears read (hears read v front) back
hears_append read v [] back = refl
hears_append read v (c ∷ cs) back = hears_append read (hears_octet read v c) cs back

may_append : (read : Reading) (v : View) (front : List ℕ) (octet : ℕ) → MayHear read v front → may_hear (hears read v front) ≡ true → MayHear read v (front ++ octet ∷ [])
may_append read v [] octet may one = (one, tt)
may_append read v (c ∷ cs) octet may one = (may.0, may_append read (hears_octet read v c) cs octet may.1 one)

are_append : (read : Reading) (v : View) (front : List ℕ) (octet : ℕ) (w : View) → MayHear read v front → may_hear (hears read v front) ≡ true
    → OctetIsHeard read (hears read v front) octet w → AreHeard read v (front ++ octet ∷ []) w
are_append read v [] octet w may one h = (one, w, h, refl)
are_append read v (c ∷ cs) octet w may one h =
    (may.0, hears_octet read v c, octet_as_ever read v c, are_append read (hears_octet read v c) cs octet w may.1 one h)

pub hears_more : (front : List ℕ) (octet : ℕ) (v x w : View) → HearsTo front v x → may_hear x ≡ true
    → ((read : Reading) → IsReading read → w ≡ hears_octet read x octet) → HearsTo (front ++ octet ∷ []) v w
hears_more front octet v x w h may one read is = (
  one read is ∙ ap (λ y. hears_octet read y octet) (h read is).0 ∙ sym (hears_append read v front (octet ∷ [])),
  may_append read v front octet (h read is).1 (ap may_hear (sym (h read is).0) ∙ may),
)

pub hears_lost : (front : List ℕ) (octet : ℕ) (v x w : View) → HearsTo front v x → may_hear x ≡ true
    → ((read : Reading) → IsReading read → OctetIsHeard read x octet w) → AreHeardTo (front ++ octet ∷ []) v w
hears_lost front octet v x w h may one read is =
    are_append read v front octet w (h read is).1 (ap may_hear (sym (h read is).0) ∙ may) (subst (λ y. OctetIsHeard read y octet w) (h read is).0 (one read is))

-- one more octet of a piece
pub piece_more : (piece : List ℕ) (i : ℕ) (v x w : View) → i < length piece → HearsTo (take i piece) v x → may_hear x ≡ true
    → ((read : Reading) → IsReading read → w ≡ hears_octet read x (get_or piece i 0)) → HearsTo (take (i + 1) piece) v w
piece_more piece i v x w in_it h may one =
    subst (λ (l : List ℕ). HearsTo l v w) (sym (take_more piece i 0 in_it)) (hears_more (take i piece) (get_or piece i 0) v x w h may one)

pub piece_lost : (piece : List ℕ) (i count : ℕ) (v x w : View) → count ≡ i → i < length piece → HearsTo (take i piece) v x → may_hear x ≡ true
    → ((read : Reading) → IsReading read → OctetIsHeard read x (get_or piece i 0) w) → AreHeardTo (take (count + 1) piece) v w
piece_lost piece i count v x w same in_it h may one =
    subst (λ n. AreHeardTo (take (n + 1) piece) v w) (sym same)
    (subst (λ (l : List ℕ). AreHeardTo l v w) (sym (take_more piece i 0 in_it)) (hears_lost (take i piece) (get_or piece i 0) v x w h may one))

-- what is said of an `Ok` holds of it
pub of_ok : {T E : Type 0} {P : Type 0} (r : Result T E) → is_err r ≡ false → OnOk r P → P
of_ok (Ok x) e p = p
of_ok (Err x) e p = absurd (let wrong : true ≡ false = e in cc)

-- where no octet was taken, the view is as it was
pub some_taken : (i count : ℕ) (v x : View) → count ≡ i → (i ≡ 0 → x ≡ v) → may_hear x ≡ false → may_hear v ≡ true → 0 < count
some_taken zero count v x same first stops may = absurd (let wrong : true ≡ false = sym may ∙ ap may_hear (sym (first refl)) ∙ stops in cc)
some_taken (suc i) count v x same first stops may = omega (arith, same)
