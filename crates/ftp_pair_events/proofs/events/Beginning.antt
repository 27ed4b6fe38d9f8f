-- A report is of an operation that is under way.
use Rattle.std.proofs.Common.{◌≡◌, ◌∙◌, ℕ, List, Bool, true, false, not, ◌&&◌, Some, None, refl, sym, ap}
use Rattle.std.specs.Prelude.{IsTrue, is_some}
use Rattle.ftp_operation.specs.Answer.{Said}
use Rattle.ftp_operation.specs.declared.op.Op.{Op}
use Rattle.ftp_client_model.specs.Tries.{OverBreaks}
use Rattle.ftp_server_model.specs.Machine.{Reading}
use Rattle.laws_world.specs.Serving.{after_event}
use Rattle.ftp_client_model.specs.Calls.{starts, uploads, report_of, report_of_job, reports, reported_by, is_busy, is_busy_job, handed_back}
use Rattle.laws_world.specs.Events.{Happens, Next, Upload, begins_at_moment, lends_none, can_begin, is_gone, is_asked_for}
use Rattle.laws_world.specs.World.{World}
use Rattle.ftp_pair_events.specs.events.Shown.{is_unlinked}
use Rattle.ftp_client_model.specs.View.{View, Job, Idle, Waiting, Doing, Transferring, Told}

-- an operation without a report: nothing is taken
none_by : (job : Job) (v : View) → report_of_job job ≡ None → reported_by job v ≡ v
none_by Idle v none = refl
none_by (Waiting op) v none = refl
none_by (Doing op step) v none = refl
none_by (Transferring op transfer) v none = refl
none_by (Told answer) v none = absurd (cc (none))

-- where there is none nothing changes
pub none_told : (v : View) → report_of v ≡ None → reports v ≡ v
none_told v none = none_by v.job v none

-- one with a report is under way
busy_by : (job : Job) (answer : Said) → report_of_job job ≡ Some answer → IsTrue (is_busy_job job)
busy_by Idle answer is = absurd (cc (is))
busy_by (Waiting op) answer is = refl
busy_by (Doing op step) answer is = refl
busy_by (Transferring op transfer) answer is = refl
busy_by (Told told) answer is = refl

-- a client with a report is busy
pub told_is_busy : (v : View) (answer : Said) → report_of v ≡ Some answer → IsTrue (is_busy v)
told_is_busy v answer is = busy_by v.job answer is

-- where something is handed back, the client was busy
pub handed_some : {T : Type 0} (busy : Bool) (given : T) → is_some (handed_back busy (Some given)) ≡ true → busy ≡ true
handed_some true given is = refl
handed_some false given is = absurd (cc (is))

-- where nothing is, it was not
pub handed_none : {T : Type 0} (busy : Bool) (given : T) → is_some (handed_back busy (Some given)) ≡ false → busy ≡ false
handed_none true given is = absurd (cc (is))
handed_none false given is = refl

-- where a link stands or is wanted, no operation may begin
pub linked_not : (w : World) → is_unlinked w ≡ false → can_begin w ≡ false
linked_not w is = by (not (is_busy w.near)) (is_gone w.link) (not (is_asked_for w)) is
  where
    by : (a b c : Bool) → (b && c) ≡ false → (a && b && c) ≡ false
    by true true true is = is
    by true true false is = refl
    by true false c is = refl
    by false b c is = refl

-- nor where the client is busy
pub busy_not : (w : World) → is_busy w.near ≡ true → can_begin w ≡ false
busy_not w is = ap (λ b. not b && is_gone w.link && not (is_asked_for w)) is

-- else one may
pub free_begins : (w : World) → is_busy w.near ≡ false → is_unlinked w ≡ true → IsTrue (can_begin w)
free_begins w free is = by (is_busy w.near) (is_gone w.link) (not (is_asked_for w)) free is
  where
    by : (a b c : Bool) → a ≡ false → (b && c) ≡ true → IsTrue (not a && b && c)
    by true b c free is = absurd (cc (free))
    by false true true free is = refl
    by false true false free is = absurd (cc (is))
    by false false c free is = absurd (cc (is))

-- a world whose client has begun an operation
abbrev starts_in : Op (List ℕ) → World → World
starts_in op w = record w { near = starts op w.near }

-- an operation begins
pub began : (read : Reading) (op : Op (List ℕ)) (moment : ℕ) (old ready begun mid new : World) → is_unlinked old ≡ true → ready ≡ old → is_busy ready.near ≡ false
    → begun ≡ record ready { near = starts op ready.near } → mid ≡ begins_at_moment moment begun.near (lends_none begun) → new ≡ after_event mid
    → Happens read (Next op moment) old true new
began read op moment old ready begun mid new unlinked ready_is free begun_is mid_is is =
    let e : begun ≡ record old { near = starts op old.near } = begun_is ∙ ap (starts_in op) ready_is in
    (free_begins old (ap (λ w. is_busy w.near) (sym ready_is) ∙ free) unlinked, is ∙ ap after_event (mid_is ∙ ap (λ b. begins_at_moment moment b.near (lends_none b)) e))

-- a world whose client has begun an upload over breaks
abbrev uploads_in : OverBreaks → World → World
uploads_in upload w = record w { near = uploads upload w.near }

-- an upload over breaks begins
pub uploaded : (read : Reading) (upload : OverBreaks) (moment : ℕ) (old ready begun mid new : World) → is_unlinked old ≡ true → ready ≡ old → is_busy ready.near ≡ false
    → begun ≡ record ready { near = uploads upload ready.near } → mid ≡ begins_at_moment moment begun.near (lends_none begun) → new ≡ after_event mid
    → Happens read (Upload upload moment) old true new
uploaded read upload moment old ready begun mid new unlinked ready_is free begun_is mid_is is =
    let e : begun ≡ record old { near = uploads upload old.near } = begun_is ∙ ap (uploads_in upload) ready_is in
    (free_begins old (ap (λ w. is_busy w.near) (sym ready_is) ∙ free) unlinked, is ∙ ap after_event (mid_is ∙ ap (λ b. begins_at_moment moment b.near (lends_none b)) e))
