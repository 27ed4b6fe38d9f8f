-- What a call makes from what its clauses say, and what it gives where neither count moved.
use Rattle.std.proofs.Common.{◌≡◌, ◌≤◌, ◌⊎◌, inl, inr, ℕ, zero, suc, false, List, [], ◌∷◌, ◌++◌, length, min, take, drop, Result, sym, ap, subst, ◌∙◌, arith}
use Rattle.std.specs.Prelude.{IfOk, Ok, Err, if◌then◌else◌}
use Rattle.std.proofs.Math.Seq.{take-append_seam}
use Rattle.std.proofs.lemmas.List.{take_min}
use Rattle.ftp_server_model.specs.Calls.{MayReceive, clocked, control_step, data_closed, data_end, data_fault, data_opened, data_refused, given_step, gives_control, gives_data, listen_refused, listening, may_receive, receives, receives_octet, to_give}
use Rattle.ftp_server_model.specs.Failing.{GiveFails, KeepsCourse}
use Rattle.ftp_server_model.specs.Far.{Acts, Server, Steps}
use Rattle.ftp_server_model.specs.Machine.{MayHear, Reading, hears, hears_octet, later, may_hear}
use Rattle.ftp_server_model.specs.Play.{Cue, Gift, Clock, Hear, ControlOut, ControlEnd, Listening, ListenRefused, DataOpened, DataRefused, DataHear, DataOut, DataEnd, DataFault, DataClosed, AsksWants, Took, Octets, most_given, most_heard, most_received}
use Rattle.ftp_server_model.specs.View.{View}
use Rattle.ftp_server_calls.specs.one.Cues.{gift_of}
use Rattle.ftp_server_calls.specs.one.Making.{GivesSome, Makes, MakesOnCourse, TakesHeard, TakesReceived}
use Rattle.ftp_server_calls.specs.one.Playing.{Gives}
use Rattle.ftp_server_calls.specs.declared.one.cue.Gift.{Gift as Given}

-- ---- which call it is

pub by_cue : (cue arm : Cue) (gift : Gift) (old new : Server) → cue ≡ arm → Makes arm gift old new → Makes cue gift old new
by_cue cue arm gift old new is makes = subst (λ k. Makes k gift old new) (sym is) makes

-- where the device did not stray
pub on_course : {A E : Type 0} (cue : Cue) (r : Result (Given A) E) (old new : Server) → KeepsCourse old.counts new.counts
    → IfOk r (λ gift. MakesOnCourse cue (gift_of gift) old new) → IfOk r (λ gift. Makes cue (gift_of gift) old new)
on_course cue (Ok gift) old new course makes = makes course
on_course cue (Err fault) old new course makes = tt

-- ---- calls that give octets

-- what a call wrote into a vector, cut to what it gave
pub cut_back : (count len : ℕ) (room items octets : List ℕ) → length room ≡ len → items ≡ take count (take len (room ++ drop (length room) octets)) → items ≡ take count room
cut_back count len room items octets long is =
    is ∙ ap (take count) (ap (λ n. take n (room ++ drop (length room) octets)) (sym long) ∙ take-append_seam room (drop (length room) octets))

pub control_makes : (room count : ℕ) (octets : List ℕ) (old new : Server) → count ≡ min room (length old.view.owed) → octets ≡ take count old.view.owed
    → Acts (control_step count) old new → Makes (ControlOut room) (Octets octets) old new
control_makes room count octets old new most is acts =
    (ap Octets (is ∙ ap (λ n. take n old.view.owed) most ∙ take_min room old.view.owed), subst (λ n. Acts (control_step n) old new) most acts)

pub data_makes : (room count : ℕ) (octets : List ℕ) (old new : Server) → count ≤ min room (length (to_give old.view)) → (new.counts ≡ old.counts → count ≡ min room (length (to_give old.view)))
    → octets ≡ take count (to_give old.view) → Steps (GiveFails count) (given_step count) old new → Makes (DataOut room) (Octets octets) old new
data_makes room count octets old new within most is steps = (count, ap Octets is, record { within = within; now = steps; most = most })

-- ---- how many octets are taken

-- control octets: all of them, or as many as may be heard
heard_is : (read : Reading) (v : View) (octets : List ℕ) (count : ℕ) → count ≤ length octets → MayHear read v (take count octets)
    → (count ≡ length octets) ⊎ (may_hear (hears read v (take count octets)) ≡ false) → count ≡ most_heard read v octets
heard_is read v [] count few may most = omega (arith, few)
heard_is read v (octet ∷ octets) zero few may (inl all) = absurd (omega (arith, all))
heard_is read v (octet ∷ octets) zero few may (inr stops) =
    ap (λ b. if b then suc (most_heard read (hears_octet read v octet) octets) else 0) (sym stops)
heard_is read v (octet ∷ octets) (suc count) few may most =
    ap suc (heard_is read (hears_octet read v octet) octets count (omega (arith, few)) may.1 (rest most))
    ∙ ap (λ b. if b then suc (most_heard read (hears_octet read v octet) octets) else 0) (sym may.0)
  where
    rest : (suc count ≡ suc (length octets)) ⊎ (may_hear (hears read (hears_octet read v octet) (take count octets)) ≡ false)
        → (count ≡ length octets) ⊎ (may_hear (hears read (hears_octet read v octet) (take count octets)) ≡ false)
    rest (inl all) = inl (omega (arith, all))
    rest (inr stops) = inr stops

-- data octets: all of them, or as many as may be received
received_is : (v : View) (octets : List ℕ) (count : ℕ) → count ≤ length octets → MayReceive v (take count octets)
    → (count ≡ length octets) ⊎ (may_receive (receives v (take count octets)) ≡ false) → count ≡ most_received v octets
received_is v [] count few may most = omega (arith, few)
received_is v (octet ∷ octets) zero few may (inl all) = absurd (omega (arith, all))
received_is v (octet ∷ octets) zero few may (inr stops) =
    ap (λ b. if b then suc (most_received (receives_octet v octet) octets) else 0) (sym stops)
received_is v (octet ∷ octets) (suc count) few may most =
    ap suc (received_is (receives_octet v octet) octets count (omega (arith, few)) may.1 (rest most))
    ∙ ap (λ b. if b then suc (most_received (receives_octet v octet) octets) else 0) (sym may.0)
  where
    rest : (suc count ≡ suc (length octets)) ⊎ (may_receive (receives (receives_octet v octet) (take count octets)) ≡ false)
        → (count ≡ length octets) ⊎ (may_receive (receives (receives_octet v octet) (take count octets)) ≡ false)
    rest (inl all) = inl (omega (arith, all))
    rest (inr stops) = inr stops

-- so a row is heard to its end, or as far as it may be
on_most : (count : ℕ) (octets : List ℕ) (v w : View) → v ≡ w → (count ≡ length octets) ⊎ (may_hear v ≡ false) → (count ≡ length octets) ⊎ (may_hear w ≡ false)
on_most count octets v w is (inl all) = inl all
on_most count octets v w is (inr stops) = inr (ap may_hear (sym is) ∙ stops)

on_most_data : (count : ℕ) (octets : List ℕ) (v w : View) → v ≡ w → (count ≡ length octets) ⊎ (may_receive v ≡ false) → (count ≡ length octets) ⊎ (may_receive w ≡ false)
on_most_data count octets v w is (inl all) = inl all
on_most_data count octets v w is (inr stops) = inr (ap may_receive (sym is) ∙ stops)

-- ---- what a call gives where neither count moved

hear_gives : (octets : List ℕ) (count : ℕ) (gift : Gift) (old new : Server) → gift ≡ Took count → TakesHeard count octets old new → Gives (Hear octets) gift old new
hear_gives octets count gift old new took takes = λ same read is.
    let h = takes.took read is in
    let n : count ≡ most_heard read old.view octets =
    heard_is read old.view octets count takes.within (h.may same) (on_most count octets new.view (hears read old.view (take count octets)) (h.done same) (takes.most same)) in
    let g : gift ≡ Took (most_heard read old.view octets) = took ∙ ap Took n in
    let w : new.view ≡ hears read old.view (take (most_heard read old.view octets) octets) = h.done same ∙ ap (λ k. hears read old.view (take k octets)) n in
    λ i. (g i, w i)

receive_gives : (octets : List ℕ) (count : ℕ) (gift : Gift) (old new : Server) → gift ≡ Took count → TakesReceived count octets old new → Gives (DataHear octets) gift old new
receive_gives octets count gift old new took takes = λ same read is.
    let h = takes.took in
    let n : count ≡ most_received old.view octets =
    received_is old.view octets count takes.within (h.may same) (on_most_data count octets new.view (receives old.view (take count octets)) (h.done same) (takes.most same)) in
    let g : gift ≡ Took (most_received old.view octets) = took ∙ ap Took n in
    let w : new.view ≡ receives old.view (take (most_received old.view octets) octets) = h.done same ∙ ap (λ k. receives old.view (take k octets)) n in
    λ i. (g i, w i)

data_gives : (room count : ℕ) (gift : Gift) (old new : Server) → gift ≡ Octets (take count (to_give old.view)) → GivesSome count room old new → Gives (DataOut room) gift old new
unfolding gives_data
data_gives room count gift old new gave gives = λ same read is.
    let g : gift ≡ Octets (take room (to_give old.view)) = gave ∙ ap Octets (ap (λ n. take n (to_give old.view)) (gives.most same) ∙ take_min room (to_give old.view)) in
    let w : new.view ≡ later (given_step (most_given room (to_give old.view)) old.view) = gives.now.done same ∙ ap (λ n. later (given_step n old.view)) (gives.most same) in
    λ i. (g i, w i)

-- each call
pub makes_gives : (cue : Cue) (gift : Gift) (old new : Server) → Makes cue gift old new → Gives cue gift old new
unfolding clocked gives_control listening listen_refused data_opened data_refused data_end data_fault data_closed
makes_gives (Clock moment) gift old new makes = λ same read is i. (makes.0 i, makes.1.done same i)
makes_gives (Hear octets) gift old new makes = hear_gives octets makes.0 gift old new makes.1 makes.2
makes_gives (ControlOut room) gift old new makes = λ same read is i. (makes.0 i, makes.1.done same i)
makes_gives ControlEnd gift old new makes = λ same read is i. (makes.0 i, (makes.1 i).view)
makes_gives (Listening port) gift old new makes = λ same read is i. (makes.0 i, makes.1.done same i)
makes_gives ListenRefused gift old new makes = λ same read is i. (makes.0 i, makes.1.done same i)
makes_gives (DataOpened host) gift old new makes = λ same read is i. (makes.0 i, makes.1.done same i)
makes_gives DataRefused gift old new makes = λ same read is i. (makes.0 i, makes.1.done same i)
makes_gives (DataHear octets) gift old new makes = receive_gives octets makes.0 gift old new makes.1 makes.2
makes_gives (DataOut room) gift old new makes = data_gives room makes.0 gift old new makes.1 makes.2
makes_gives DataEnd gift old new makes = λ same read is i. (makes.0 i, makes.1.done same i)
makes_gives DataFault gift old new makes = λ same read is i. (makes.0 i, makes.1.done same i)
makes_gives DataClosed gift old new makes = λ same read is i. (makes.0 i, makes.1.done same i)
makes_gives AsksWants gift old new makes = λ same read is i. (makes.0 i, (makes.1 i).view)
