-- What is known of a session, by the laws of agreement.
use Rattle.std.proofs.Common.{◌≡◌, ◌∙◌, Bool, true, List, [], ◌∷◌, ◌++◌, map, refl, sym, ap, subst, append-nil, append_assoc, Ok, Err}
use Rattle.std.specs.Prelude.{IfOk}
use Rattle.std.specs.declared.result.Result.{Result}
use Rattle.laws_agreement.proofs.Theorems.{agrees-always, headline, quiet-is-answered, rest-is-quiet}
use Rattle.ftp_server_model.specs.Machine.{IsReading, Reading}
use Rattle.laws_world.specs.Agreement.{AreHonest, IsHonest, Leads, Order, begun_by_event}
use Rattle.laws_world.specs.Claims.{AreTimed, Beginning, IsTimed, world_of}
use Rattle.laws_world.specs.Events as events
use Rattle.laws_world.specs.Events.{Event, Happens}
use Rattle.laws_world.specs.Still.{IsStill}
use Rattle.laws_world.specs.World.{World}
use Rattle.ftp_pair_events.specs.events.Happening.{IsSmallDelivery, event_of}
use Rattle.ftp_pair_events.specs.events.Shown.{Steps}
use Rattle.ftp_pair_events.specs.declared.events.event.Event.{Event as Given}
use Rattle.ftp_pair.specs.Session.{AgreesAfter, AgreesBy, AreSmall, GoesOn, IsSettled, LeadsCalmly, LeadsSmall, Seen, Session, SettlesAfter}
use Rattle.ftp_pair.proofs.Reaching.{timed}

-- ---- events behind events

-- they lead on
pub leads_on : (read : Reading) (front given : List Event) (begun more : List Order) (old mid new : World) → Leads read old front begun mid → Leads read mid given more new
    → Leads read old (front ++ given) (begun ++ more) new
leads_on read [] given begun more old mid new leads rest =
    subst (λ b. Leads read old given (b ++ more) new) (sym leads.0) (subst (λ w. Leads read w given more new) leads.1 rest)
leads_on read (event ∷ front) given begun more old mid new leads rest = (
  leads.0,
  leads.1,
  leads.2 ++ more,
  leads.3,
  ap (λ b. b ++ more) leads.4 ∙ append_assoc (begun_by_event event leads.0) leads.2 more,
  leads_on read front given leads.2 more leads.1 mid new leads.5 rest,
)

-- each of them is timed
timed_on : (front given : List Event) → AreTimed front → AreTimed given → AreTimed (front ++ given)
timed_on [] given one other = other
timed_on (event ∷ front) given one other = (one.0, timed_on front given one.1 other)

-- each is honest
honest_on : (front given : List Event) → AreHonest front → AreHonest given → AreHonest (front ++ given)
honest_on [] given one other = other
honest_on (event ∷ front) given one other = (one.0, honest_on front given one.1 other)

-- ---- events by which a world comes to rest

-- a small event is timed and honest
small_is : (event : Event) → IsSmallDelivery event → IsTimed event × IsHonest event
small_is (events.Deliver queue count) small = (tt, tt)
small_is events.Open small = (tt, tt)
small_is (events.End queue) small = (tt, tt)
small_is other small = absurd small

-- so is each of them
small_timed : (turns : List Event) → AreSmall turns → AreTimed turns
small_timed [] small = tt
small_timed (event ∷ turns) small = ((small_is event small.0).0, small_timed turns small.1)

small_honest : (turns : List Event) → AreSmall turns → AreHonest turns
small_honest [] small = tt
small_honest (event ∷ turns) small = ((small_is event small.0).1, small_honest turns small.1)

-- ---- a session goes on

-- by more events
session_on : (read : Reading) (from : Beginning) (before given : List Event) (begun more : List Order) (old new : World) → Session read from before begun old → AreTimed given
    → Leads read old given more new → Session read from (before ++ given) (begun ++ more) new
session_on read from before given begun more old new s in_time leads = record {
  fair = s.fair;
  timed = timed_on before given s.timed in_time;
  leads = leads_on read before given begun more (world_of from) old new s.leads leads;
}

-- and there is agreement
goes_on : (read : Reading) (reads : IsReading read) (given : List Event) (more : List Order) (old new : World) → AreTimed given → Leads read old given more new → GoesOn read given more old new
goes_on read reads given more old new in_time leads from before begun session =
    let on = session_on read from before given begun more old new session in_time leads in
    (on, agrees-always read reads from on.fair (before ++ given) (begun ++ more) new on.timed on.leads)

-- by the operations that were begun on the way
pub agrees_after : (given : List Event) (old new : Seen) → AreTimed given → LeadsCalmly given old new → AgreesAfter given old new
agrees_after given old new in_time leads calm read reads =
    let so = (leads calm).1 read reads in
    (so.0, so.1, goes_on read reads given so.0 old.world new.world in_time so.1)

-- by turns to rest
pub settles : (old new : Seen) → LeadsSmall old new → (new.calm ≡ true → IsStill new.world) → SettlesAfter old new
settles old new leads still calm read reads from before begun session =
    let so = (leads calm).1 read reads in
    let turns : List Event = so.0 in
    let on : Session read from (before ++ turns) begun new.world =
    subst (λ b. Session read from (before ++ turns) b new.world) (append-nil begun)
    (session_on read from before turns begun [] old.world new.world session (small_timed turns so.1) so.2) in
    (turns, so.1, on, at_rest turns so.1 on)
  where
    at_rest : (turns : List Event) → AreSmall turns → Session read from (before ++ turns) begun new.world → IsSettled from before begun new.world
    at_rest turns small on =
        let quiet = rest-is-quiet read reads from on.fair (before ++ turns) begun new.world on.timed on.leads (still calm) in
        record {
          agrees = agrees-always read reads from on.fair (before ++ turns) begun new.world on.timed on.leads;
          quiet = quiet;
          answered = quiet-is-answered read reads from on.fair (before ++ turns) begun new.world on.timed on.leads quiet;
          direct = λ honest single.
              headline read reads from on.fair (before ++ turns) begun new.world on.timed on.leads (honest_on before turns honest (small_honest turns small)) single quiet;
        }

-- each event that a world is given is timed
pub all_timed : {A : Type 0} (given : List (Given A)) → AreTimed (map event_of given)
all_timed [] = tt
all_timed (event ∷ given) = (timed event, all_timed given)

-- so after one event there is agreement, with what it began
pub agrees_step : {A E : Type 0} (event : Given A) (result : Result Bool E) (old new : Seen)
    → IfOk result (λ possible. Steps old.calm new.calm (λ read. Happens read (event_of event) old.world possible new.world))
    → IfOk result (λ possible. AgreesBy (event_of event) (begun_by_event (event_of event) possible) old new)
agrees_step event (Ok possible) old new did = λ calm read reads.
    goes_on read reads (event_of event ∷ []) (begun_by_event (event_of event) possible) old.world new.world (timed event, tt)
    (possible, new.world, [], (did calm).1 read reads, sym (append-nil (begun_by_event (event_of event) possible)), (refl, refl))
agrees_step event (Err e) old new did = tt
