-- A client that is plain stays so by each action but those that begin an operation and give or take octets: it has no port of its own; and by each of these but
-- hearing and being told of an end it does not fail.
use Rattle.std.proofs.Common.{◌≡◌, ℕ, true, List, [], ◌∷◌, length, take, refl, sym, ap, subst, ◌∙◌}
use Rattle.std.specs.Prelude.{⊤}
use Rattle.ftp_ports.specs.Asking.{Connected, Ended as EndedBy, Shut}
use Rattle.ftp_ports.specs.Actions.{Action, Done, Heard, Other, Read, Said as Says, Stand}
use Rattle.ftp_ports.specs.Machine.{Aside, Closed, End, Got, Held, Left, LetGo, Opened, Received, Waited}
use Rattle.ftp_client_driver.specs.Side.{Reporting, client_side}
use Rattle.ftp_client_model.specs.Calls.{data_opened, is_sound, receives}
use Rattle.ftp_client_model.specs.Failing.{Client}
use Rattle.ftp_client_model.specs.View.{Doing, Idle, Job, Told, Transfer, Transferring, View as Near, Waiting}
use Rattle.ftp_operation.specs.declared.op.Op.{Op}
use Rattle.laws_drivers.specs.control.Alone.{ClientIsCalm}
use Rattle.laws_drivers.proofs.control.Taken.{idle_of, reports_is, taken}
use Rattle.laws_drivers.proofs.events.NearForms.{dialled_standing, dialling_of, receives_standing}
use Rattle.laws_drivers.proofs.events.Plain.{IsKept, IsPlainBy, IsPlainJob, IsPlainly, ended_plain, hears_plain, opened_plain, received_plain}

-- ---- actions of a client that gives no octet of a data connection

-- it hears and says, is asked for its report, dials, takes octets to the end that it is told, and leaves a data connection by an end; it begins nothing
abbrev pub IsTaking : Action client_side → Type 0
IsTaking (Heard octets) = ⊤
IsTaking (Says octets) = ⊤
IsTaking (Read octets) = ⊤
IsTaking (Other (Aside (Reporting said))) = ⊤
IsTaking (Other (Opened host (Connected endpoint left written ∷ []) at_first so_far rest)) = ⊤
IsTaking (Other (Got octets)) = ⊤
IsTaking (Other (Received octets count)) = ⊤
IsTaking (Other End) = ⊤
IsTaking (Other (Waited lost)) = ⊤
IsTaking (Other (LetGo octets)) = ⊤
IsTaking (Other (Left (EndedBy left written))) = ⊤
IsTaking (Other (Left Shut)) = ⊤
IsTaking (Other Closed) = ⊤
IsTaking action = ⊥

-- so it does, and it was not refused memory
abbrev pub ClientTakes : Action client_side → (old new : Held Client) → Type 0
ClientTakes action old new = IsTaking action × ClientIsCalm old new

-- ---- that it stays plain

-- an action but taking octets
abbrev pub TakesNone : Action client_side → Type 0
TakesNone (Other (Received octets count)) = ⊥
TakesNone action = Unit {0}

module _ (Kept : Op (List ℕ) → Transfer → Type 0) (keeps : IsKept Kept) where
  -- once its report is taken
  taken_plain : (n : Near) → IsPlainBy Kept n → IsPlainBy Kept (taken n)
  taken_plain n p = record { job = by n.job p.job; port = p.port; run = p.run }
    where
      by : (job : Job) → IsPlainJob Kept job → IsPlainJob Kept (idle_of job)
      by (Told said) plain = tt
      by Idle plain = plain
      by (Waiting op) plain = plain
      by (Doing op step) plain = plain
      by (Transferring op transfer) plain = plain

  module _ (old new : Stand client_side) where
    abbrev v : Near
    v = old.owner.end.view

    abbrev u : Near
    u = new.owner.end.view

    -- it is this now
    is_now : (n : Near) → u ≡ n → IsPlainBy Kept n → IsPlainBy Kept u
    is_now n is p = subst (IsPlainBy Kept) (sym is) p

    -- an action
    pub action_plain : (action : Action client_side) → TakesNone action → ClientTakes action old.owner new.owner → Done action old new → IsPlainBy Kept v → IsPlainBy Kept u
    action_plain (Heard octets) none is did p =
        is_now _ (did.hears.0.0.0 is.1).0 (hears_plain Kept keeps (take (length octets) old.unheard) v p)
    action_plain (Says octets) none is did p = is_now _ did.gives.gave.0 (record { job = p.job; port = p.port; run = p.run })
    action_plain (Read octets) none is did p = is_now v (ap (λ o. o.end.view) did.owner) p
    action_plain (Other (Aside (Reporting said))) none is did p = is_now (taken v) (did.0.0.1.0 ∙ reports_is v) (taken_plain v p)
    action_plain (Other (Opened host (Connected endpoint left written ∷ []) at_first so_far rest)) none is did p =
        is_now _ (did.0.0.0.0.0 is.1) (opened_plain Kept keeps host v p)
    action_plain (Other (Got octets)) none is did p = is_now v (ap (λ c. c.view) did.0.0) p
    action_plain (Other (Received octets count)) none is did p = absurd none
    action_plain (Other End) none is did p = is_now _ (did.0.0.0.0 is.1) (ended_plain Kept keeps v p)
    action_plain (Other (Waited lost)) none is did p = is_now v (ap (λ c. c.view) did.0.0) p
    action_plain (Other (LetGo octets)) none is did p = is_now v (ap (λ c. c.view) did.0.0.0) p
    action_plain (Other (Left (EndedBy left written))) none is did p = is_now v (ap (λ c. c.view) did.0.0) p
    action_plain (Other (Left Shut)) none is did p = is_now v (ap (λ c. c.view) did.0.0) p
    action_plain (Other Closed) none is did p = is_now _ did.0.0.0 (record { job = p.job; port = p.port; run = p.run })
    action_plain action none is did p = absurd is.0

-- octets are taken
pub took_plain : (octets : List ℕ) (count : ℕ) (old new : Stand client_side) → ClientIsCalm old.owner new.owner → Done (Other (Received octets count)) old new
    → IsPlainly old.owner.end.view → IsPlainly new.owner.end.view
took_plain octets count old new calm did p = subst IsPlainly (sym (did.0.0.0.0 calm).0) (received_plain (take count octets) old.owner.end.view p)

-- ---- that it has not failed

-- an action but hearing, and being told of an end
abbrev pub IsElse : Action client_side → Type 0
IsElse (Heard octets) = ⊥
IsElse (Other End) = ⊥
IsElse action = Unit {0}

module _ (old new : Stand client_side) (sound : is_sound old.owner.end.view.standing ≡ true) where
  -- it stands as this
  now_sound : (n : Near) → new.owner.end.view ≡ n → n.standing ≡ old.owner.end.view.standing → is_sound new.owner.end.view.standing ≡ true
  now_sound n is same = ap (λ (x : Near). is_sound x.standing) is ∙ ap is_sound same ∙ sound

pub action_sound : (action : Action client_side) → IsElse action → (old new : Stand client_side) → ClientTakes action old.owner new.owner → Done action old new
    → is_sound old.owner.end.view.standing ≡ true → is_sound new.owner.end.view.standing ≡ true
action_sound (Says octets) other old new is did sound = now_sound old new sound _ did.gives.gave.0 refl
action_sound (Read octets) other old new is did sound = now_sound old new sound old.owner.end.view (ap (λ o. o.end.view) did.owner) refl
action_sound (Other (Aside (Reporting said))) other old new is did sound =
    now_sound old new sound (taken old.owner.end.view) (did.0.0.1.0 ∙ reports_is old.owner.end.view) refl
action_sound (Other (Opened host (Connected endpoint left written ∷ []) at_first so_far rest)) other old new is did sound =
    now_sound old new sound (data_opened host old.owner.end.view) (did.0.0.0.0.0 is.1)
    (dialled_standing endpoint host old.owner.end.view (dialling_of endpoint old.owner.end.view did.0.2.0))
action_sound (Other (Got octets)) other old new is did sound = now_sound old new sound old.owner.end.view (ap (λ c. c.view) did.0.0) refl
action_sound (Other (Received octets count)) other old new is did sound =
    now_sound old new sound (receives old.owner.end.view (take count octets)) (did.0.0.0.0 is.1).0 (receives_standing (take count octets) old.owner.end.view)
action_sound (Other (Waited lost)) other old new is did sound = now_sound old new sound old.owner.end.view (ap (λ c. c.view) did.0.0) refl
action_sound (Other (LetGo octets)) other old new is did sound = now_sound old new sound old.owner.end.view (ap (λ c. c.view) did.0.0.0) refl
action_sound (Other (Left (EndedBy left written))) other old new is did sound = now_sound old new sound old.owner.end.view (ap (λ c. c.view) did.0.0) refl
action_sound (Other (Left Shut)) other old new is did sound = now_sound old new sound old.owner.end.view (ap (λ c. c.view) did.0.0) refl
action_sound (Other Closed) other old new is did sound = now_sound old new sound _ did.0.0.0 refl
action_sound (Heard octets) other old new is did sound = absurd other
action_sound (Other End) other old new is did sound = absurd other
action_sound action other old new is did sound = absurd is.0
