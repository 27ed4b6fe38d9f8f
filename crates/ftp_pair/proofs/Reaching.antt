-- A world that is reached, and the one after an event.
use Rattle.std.proofs.Common.{◌≡◌, ◌∙◌, Bool, true, List, [], ◌∷◌, ◌++◌, false, refl, sym, subst, Ok, Err}
use Rattle.std.proofs.Math.Logic.{∥∥₁_prop, ∥∥₁_elim}
use Rattle.std.specs.Prelude.{IfOk, OnErr}
use Rattle.std.specs.declared.result.Result.{Result}
use Rattle.laws_world.specs.Claims.{Beginning, IsFair, IsTimed, AreTimed, world_of}
use Rattle.laws_world.specs.Events.{Happens}
use Rattle.laws_world.specs.Events as events
use Rattle.laws_world.specs.World.{World}
use Rattle.ftp_pair_events.specs.events.Happening.{IsSmallDelivery, Progresses, event_of}
use Rattle.ftp_pair_events.specs.events.Shown.{Steps}
use Rattle.ftp_pair_events.specs.declared.events.event.Event.{Event}
use Rattle.ftp_pair_events.specs.declared.events.event.Event.TheVariants as Given
use Rattle.laws_settling.proofs.Steady.{stays_steady}
use Rattle.laws_settling.specs.Steady.{IsSteadyWorld}
use Rattle.ftp_pair.specs.Session.{AgreesHere, Seen, Reached, IsReached}
use Rattle.ftp_server_model.proofs.LinesDecided.{reading_exists}
use Rattle.laws_agreement.proofs.Theorems.{agrees-always}
use Rattle.ftp_pair.proofs.Running.{leads_last}

-- every event has a moment in range
pub timed : {A : Type 0} (event : Event A) → IsTimed (event_of event)
timed (Given.Deliver queue count) = tt
timed Given.Open = tt
timed Given.Refuse = tt
timed (Given.End queue) = tt
timed Given.Break = tt
timed Given.EndControl = tt
timed (Given.Next op moment) = moment.in_range
timed (Given.Upload path octets how moment) = moment.in_range

-- a timed event after timed ones
timed_last : (given : List events.Event) (event : events.Event) → AreTimed given → IsTimed event → AreTimed (given ++ event ∷ [])
timed_last [] event all one = (one, tt)
timed_last (first ∷ given) event all one = (all.0, timed_last given event all.1 one)

-- where it begins
pub reached_first : (from : Beginning) (s : Seen) → IsFair from → s.world ≡ world_of from → ∥ IsReached s ∥₁
reached_first from s fair is = ∣ (λ calm. record { from = from; fair = fair; given = []; timed = tt; leads = λ read reads. ([], (refl, is)) }) ∣₁

-- one event more
reached_more : (event : events.Event) (possible : Bool) (old new : Seen) → IsTimed event → Steps old.calm new.calm (λ read. Happens read event old.world possible new.world) → IsReached old → IsReached new
reached_more event possible old new in_time steps reached calm =
    let step = steps calm in
    let before = reached step.0 in
    record {
      from = before.from;
      fair = before.fair;
      given = before.given ++ event ∷ [];
      timed = timed_last before.given event before.timed in_time;
      leads = λ read reads. let so = before.leads read reads in leads_last read before.given event so.0 possible (world_of before.from) old.world new.world so.1 (step.1 read reads);
    }

-- after an event, and where nothing changed
pub reached_on : {E : Type 0} (event : events.Event) (result : Result Bool E) (old new : Seen) → IsTimed event
    → IfOk result (λ possible. Steps old.calm new.calm (λ read. Happens read event old.world possible new.world)) → OnErr result ((new.world ≡ old.world) × (new.calm ≡ old.calm)) → ∥ IsReached old ∥₁ → ∥ IsReached new ∥₁
reached_on event (Ok possible) old new in_time does same was = ∥∥₁_elim was ∥∥₁_prop (λ reached. ∣ reached_more event possible old new in_time does reached ∣₁)
reached_on event (Err e) old new in_time does same was =
    ∥∥₁_elim was ∥∥₁_prop (λ reached. ∣ (λ calm. subst Reached (sym same.0) (reached (sym same.1 ∙ calm))) ∣₁)

-- where nothing failed
pub reached_calm : (s : Seen) → ∥ IsReached s ∥₁ → s.calm ≡ true → ∥ Reached s.world ∥₁
reached_calm s was calm = ∥∥₁_elim was ∥∥₁_prop (λ reached. ∣ reached calm ∣₁)

-- a small event is timed
small_timed : (event : events.Event) → IsSmallDelivery event → IsTimed event
small_timed (events.Deliver queue count) small = tt
small_timed events.Open small = tt
small_timed (events.End queue) small = tt
small_timed other small = absurd small

-- after a turn
pub reached_turn : (result : Bool) (old new : Seen) → (result ≡ true → Progresses old.calm new.calm old.world new.world) → (result ≡ false → new ≡ old) → ∥ IsReached old ∥₁ → ∥ IsReached new ∥₁
reached_turn true old new does same was =
    let progresses = does refl in ∥∥₁_elim was ∥∥₁_prop (λ reached. ∣ reached_more progresses.event true old new (small_timed progresses.event progresses.small) progresses.happened reached ∣₁)
reached_turn false old new does same was = subst (λ s. ∥ IsReached s ∥₁) (sym (same refl)) was

-- a world that is reached is steady
pub reached_steady : (w : World) → ∥ Reached w ∥₁ → ∥ IsSteadyWorld w ∥₁
reached_steady w was = ∥∥₁_elim was ∥∥₁_prop
    (λ reached.
    let so = reached.leads reading_exists.0 reading_exists.1 in
    ∣ stays_steady reading_exists.0 reading_exists.1 reached.from reached.fair reached.given so.0 w reached.timed so.1 ∣₁)

-- in every world that is reached there is agreement, by the law of agreement
pub agrees_here : (w : World) → ∥ Reached w ∥₁ → ∥ AgreesHere w ∥₁
agrees_here w was = ∥∥₁_elim was ∥∥₁_prop
    (λ reached. ∣ record {
      from = reached.from;
      given = reached.given;
      agrees = λ read reads.
          let so = reached.leads read reads in
          (so.0, record { fair = reached.fair; timed = reached.timed; leads = so.1 }, agrees-always read reads reached.from reached.fair reached.given so.0 w reached.timed so.1);
    } ∣₁)
