-- What stays so of a client where its dial fails; and of the actions of which dials may fail those of which none does: they mark no operation.
use Rattle.std.proofs.Common.{◌≡◌, ℕ, Bool, true, false, true≢false, List, [], ◌∷◌, refl, sym, ap, subst, ◌∙◌}
use Rattle.ftp_ports.specs.Asking.{NotConnected}
use Rattle.ftp_ports.specs.Actions.{Action, Done, Led as HaveLed, Other, Stand}
use Rattle.ftp_ports.specs.Channel.{Channel}
use Rattle.ftp_ports.specs.Machine.{Aside, Held, Refused}
use Rattle.ftp_endpoint.specs.declared.endpoint.Endpoint.{Endpoint}
use Rattle.ftp_ends.specs.declared.link.Wants.TheVariants as Want
use Rattle.ftp_client_driver.specs.Side.{Starting, client_side}
use Rattle.ftp_client_model.specs.Calls as near
use Rattle.ftp_client_model.specs.Failing.{Client}
use Rattle.ftp_client_model.specs.View.{Transfer, View as Near}
use Rattle.ftp_operation.specs.declared.op.Op.{Op}
use Rattle.ftp_server_driver.specs.alone.Side.{Timed, server_side}
use Rattle.laws_world.specs.Claims.{AreUnmarked, Beginning}
use Rattle.laws_world.specs.World.{Mark}
use Rattle.laws_drivers.specs.control.Between.{Between, CanTurn, Client as ByClient, Server as ByServer, Turn, client_actions, server_actions}
use Rattle.laws_drivers.proofs.events.Fresh.{Fresh}
use Rattle.laws_drivers.proofs.events.Holding.{is_called, is_false}
use Rattle.laws_drivers.proofs.events.NearForms.{dialling_of}
use Rattle.laws_transfers.proofs.Called.{BreaksNone}
use Rattle.laws_transfers.proofs.ClientRefused.{refused_is}
use Rattle.laws_transfers.proofs.Trying.{more_unmarked}
use Rattle.laws_drivers.proofs.events.Within.{did_within}
use Rattle.laws_active.specs.Claims.{DidEither, no_faults_either_way}
use Rattle.laws_active.specs.Actions as whole
use Rattle.laws_active.specs.Lead.{Lead}
use Rattle.laws_active.specs.Refusals.{ClientTriesEitherWay, DidTryEitherWay, Gain, Heard, IsAskingOrUnconnected, IsServingOrUnconnected, Led, dial_faults_either_way, has_failed, is_heard, marked_by_turn, marks_in_turns}
use Rattle.laws_active.proofs.Keeping.{IsCarrying, IsKeeping}
use Rattle.laws_active.proofs.Unsent.{StaysFresh, action_carrying, near_fresh}

-- ---- what stays so of the client

-- whatever is kept of its transfers, where its dial fails: it has none
refused_keeps : (Kept : Op (List ℕ) → Transfer → Type 0) (endpoint : Endpoint) (old new : Stand client_side)
    → ClientTriesEitherWay (Other (Refused (NotConnected endpoint ∷ []))) old.owner new.owner → Done (Other (Refused (NotConnected endpoint ∷ []))) old new
    → IsCarrying old.owner.end.view → IsKeeping Kept new.owner.end.view
refused_keeps Kept endpoint old new is did p =
    let v : Near = old.owner.end.view in
    subst (IsKeeping Kept) (sym (did.0.0.0.0 is.1 ∙ refused_is endpoint v (dialling_of endpoint v did.0.2.0) p.run)) (record { job = tt; run = refl })

-- of each that is begun one octet at least is asked for, where a number of them is
pub tries_carrying : (action : Action client_side) → BreaksNone action → (old new : Stand client_side) → ClientTriesEitherWay action old.owner new.owner → Done action old new
    → IsCarrying old.owner.end.view → IsCarrying new.owner.end.view
tries_carrying (Other (Refused (NotConnected endpoint ∷ []))) unbroken old new is did p = refused_keeps _ endpoint old new is did p
tries_carrying action unbroken old new is did p = action_carrying action unbroken old new is did p

-- none came while the server was dialled
pub tries_fresh : (action : Action client_side) → BreaksNone action → (p q : Between) (old new : Stand client_side) → ClientTriesEitherWay action old.owner new.owner
    → IsCarrying old.owner.end.view → StaysFresh p old
    → ((endpoint : Endpoint) → near.wants old.owner.end.view ≡ Want.Connect endpoint → IsKeeping Fresh old.owner.end.view) → Done action old new
    → CanTurn (ByClient action) p q → StaysFresh q new
tries_fresh (Other (Refused (NotConnected endpoint ∷ []))) unbroken p q old new is carrying fresh dials did can = λ called.
    let f = fresh (ap (λ (m : Between). is_called m.far) (sym can) ∙ called) in
    record {
      keeping = refused_keeps Fresh endpoint old new is did carrying;
      untold = ap (λ (l : Channel). l.untold) did.0.1.1 ∙ f.untold;
      none = ap (λ (m : Between). m.data_ways.to_client) can ∙ f.none;
    }
tries_fresh action unbroken p q old new is carrying fresh dials did can = near_fresh p q old new fresh action unbroken is dials did can

-- ---- actions of which no dial fails

serving_tries : (action : Action server_side) (at : Held Timed) → whole.IsServingOrDialling action at → IsServingOrUnconnected action at
serving_tries (Other (Refused (NotConnected endpoint ∷ []))) at is = tt
serving_tries action at is = is

asking_tries : (action : Action client_side) (at : Held Client) → whole.IsAskingOrListening action at → IsAskingOrUnconnected action at
asking_tries (Other (Refused (NotConnected endpoint ∷ []))) at is = tt
asking_tries action at is = is

-- so are all of both
pub did_try : (b : Beginning) (moments : ℕ → ℕ) (turns : List Turn) (between : Between) (server : Stand server_side) (client : Stand client_side)
    → DidEither b moments turns between server client → DidTryEitherWay b moments turns between server client
did_try = did_within no_faults_either_way dial_faults_either_way (record {
  serves = serving_tries;
  asks = asking_tries;
  ports = λ turns start now led asks ports. ports;
  ordered = λ moments turns between happened start now led resets. resets;
  short = λ actions start now led short. short;
})

-- no dial of the server failed then
server_whole : (action : Action server_side) (before : List Turn) (at : Held Timed) → whole.IsServingOrDialling action at → has_failed before ≡ false
    → has_failed (ByServer action ∷ before) ≡ false
server_whole (Other (Refused asked)) before at is none = absurd is
server_whole action before at is none = none

pub none_failed : (turns : List Turn) (start now : Stand server_side) (led : HaveLed (server_actions turns) start now)
    → whole.ServesAlongEitherWay (server_actions turns) start now led → has_failed turns ≡ false
none_failed [] start now led serves = refl
none_failed (ByServer action ∷ before) start now led serves =
    server_whole action before led.0.owner serves.1.0 (none_failed before start led.0 led.1 serves.0)
none_failed (ByClient action ∷ before) start now led serves = none_failed before start now led serves

-- nor was an operation marked
server_unmarked : (action : Action server_side) (at : Held Timed) → whole.IsServingOrDialling action at → (marks : List (List Mark)) → AreUnmarked marks
    → AreUnmarked (marked_by_turn (ByServer action) marks)
server_unmarked (Other (Refused asked)) at is marks unmarked = absurd is
server_unmarked action at is marks unmarked = unmarked

client_unmarked : (action : Action client_side) (at : Held Client) → whole.IsAskingOrListening action at → (marks : List (List Mark)) → AreUnmarked marks
    → AreUnmarked (marked_by_turn (ByClient action) marks)
client_unmarked (Other (Aside (Starting op))) at is marks unmarked = more_unmarked marks unmarked
client_unmarked (Other (Refused asked)) at is marks unmarked = absurd is
client_unmarked action at is marks unmarked = unmarked

pub none_marked : (turns : List Turn) (server_start server : Stand server_side) (server_led : HaveLed (server_actions turns) server_start server)
    → whole.ServesAlongEitherWay (server_actions turns) server_start server server_led → (client_start client : Stand client_side)
    (client_led : HaveLed (client_actions turns) client_start client) → whole.AsksAlongEitherWay (client_actions turns) client_start client client_led
    → AreUnmarked (marks_in_turns turns)
none_marked [] server_start server server_led serves client_start client client_led asks = tt
none_marked (ByServer action ∷ before) server_start server server_led serves client_start client client_led asks =
    server_unmarked action server_led.0.owner serves.1.0 (marks_in_turns before)
    (none_marked before server_start server_led.0 server_led.1 serves.0 client_start client client_led asks)
none_marked (ByClient action ∷ before) server_start server server_led serves client_start client client_led asks =
    client_unmarked action client_led.0.owner asks.1.0 (marks_in_turns before)
    (none_marked before server_start server server_led serves client_start client_led.0 client_led.1 asks.0)

-- so a world's client is ahead as where none fails
pub lead_of : (gain : Gain) → is_heard gain ≡ false → (lead : Lead) × (gain ≡ Led lead)
lead_of (Led lead) none = (lead, refl)
lead_of (Heard octets) none = absurd (true≢false none)

pub none_heard : (gain : Gain) (failed : Bool) → (is_heard gain ≡ true → failed ≡ true) → failed ≡ false → is_heard gain ≡ false
none_heard gain failed heard none = is_false (is_heard gain) (λ e. true≢false (sym (heard e) ∙ none))
