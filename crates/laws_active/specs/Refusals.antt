-- One server's drive and drives of one client that put, fetch and peek as those of `Actions` do, but for dials of either that fail: the marks that a world makes
-- of the operations begun, and what is claimed of both (RFC 959, sections 3.2 and 5.4).
use Rattle.std.specs.Prelude.{◌≡◌, ⊤, ℕ, Bool, true, false, List, [], ◌∷◌, ◌++◌, length, None, Some, option_to_list}
use Rattle.ftp_ports.specs.Asking.{NotConnected}
use Rattle.ftp_ports.specs.Actions.{Action, Led as HaveLed, Other, Stand}
use Rattle.ftp_ports.specs.Machine.{Held, Refused}
use Rattle.ftp_client_driver.specs.Side.{client_side}
use Rattle.ftp_client_model.specs.Calls.{control_end, data_closed, hears, report_of, reports}
use Rattle.ftp_client_model.specs.Failing.{Client}
use Rattle.ftp_client_model.specs.View.{View as Near}
use Rattle.ftp_operation.specs.Answer.{Said}
use Rattle.laws_drivers.specs.control.Alone.{ClientIsCalm, ServerIsCalm, reports_in}
use Rattle.laws_drivers.specs.control.Between.{Between, Client as ByClient, Server as ByServer, Turn, client_actions}
use Rattle.laws_drivers.specs.events.Actions.{Along}
use Rattle.laws_drivers.specs.events.Answers.{IsAnswerBy}
use Rattle.laws_drivers.specs.events.Faults.{Did, Faults}
use Rattle.laws_transfers.specs.Ahead.{Ahead, Fits, far_ahead}
use Rattle.laws_transfers.specs.Claims.{IsNear}
use Rattle.laws_transfers.specs.Actions.{IsCarried}
use Rattle.laws_drivers.specs.events.Moments.{AreMoments, begun_at}
use Rattle.laws_transfers.specs.Refusals as passive
use Rattle.laws_world.specs.Agreement.{Agrees, Leads}
use Rattle.laws_world.specs.Claims.{AreTimed, Beginning, IsFair, state_of, world_of}
use Rattle.laws_world.specs.Events.{Event}
use Rattle.laws_world.specs.World.{Mark, Refused as WasRefused, Stands, World, marked_last}
use Rattle.ftp_server_driver.specs.alone.Side.{Timed, server_side}
use Rattle.ftp_server_model.specs.Calls.{clock_step}
use Rattle.ftp_server_model.specs.Machine.{IsReading, Reading}
use Rattle.laws_active.specs.Actions as whole
use Rattle.laws_active.specs.Claims.{no_faults_either_way}
use Rattle.laws_active.specs.Lead.{Lead, led_by}

-- ---- the actions

-- a dial of the server fails, or it does what it does where none fails
abbrev pub IsServingOrUnconnected : Action server_side → Held Timed → Type 0
IsServingOrUnconnected (Other (Refused (NotConnected endpoint ∷ []))) at = ⊤
IsServingOrUnconnected action at = whole.IsServingOrDialling action at

-- so it does, and it was not refused memory, and no device of it failed or strayed
abbrev pub ServerTries : Action server_side → (old new : Held Timed) → Type 0
ServerTries action old new = IsServingOrUnconnected action old × ServerIsCalm old new

abbrev pub ServerTriesAlong : (actions : List (Action server_side)) (start now : Stand server_side) → HaveLed actions start now → Type 0
ServerTriesAlong actions start now led = Along ServerTries actions start now led

-- a dial of the client fails, or it does what it does where none fails
abbrev pub IsAskingOrUnconnected : Action client_side → Held Client → Type 0
IsAskingOrUnconnected (Other (Refused (NotConnected endpoint ∷ []))) at = ⊤
IsAskingOrUnconnected action at = whole.IsAskingOrListening action at

-- so it does, and it was not refused memory
abbrev pub ClientTriesEitherWay : Action client_side → (old new : Held Client) → Type 0
ClientTriesEitherWay action old new = IsAskingOrUnconnected action old × ClientIsCalm old new

abbrev pub ClientTriesAlong : (actions : List (Action client_side)) (start now : Stand client_side) → HaveLed actions start now → Type 0
ClientTriesAlong actions start now led = Along ClientTriesEitherWay actions start now led

-- ---- the marks

-- an operation that is begun has none; one for which a dial of either fails is marked, as that which was begun last
abbrev pub marked_by_turn : Turn → List (List Mark) → List (List Mark)
marked_by_turn (ByServer (Other (Refused asked))) marks = marked_last WasRefused marks
marked_by_turn (ByServer action) marks = marks
marked_by_turn (ByClient action) marks = passive.marked_by action marks

-- those of each operation that was begun in an order of actions, the last action first
abbrev pub marks_in_turns : List Turn → List (List Mark)
marks_in_turns [] = []
marks_in_turns (turn ∷ before) = marked_by_turn turn (marks_in_turns before)

-- ---- how a world's client is ahead

-- a dial of the server failed
abbrev pub has_failed : List Turn → Bool
has_failed [] = false
has_failed (ByServer (Other (Refused asked)) ∷ before) = true
has_failed (turn ∷ before) = has_failed before

-- as where none fails; or it heard these octets there, the first of those that come next: what is left of a 150, as a dial failed after that was said
pub data Gain : Type 0 where
  Led : (lead : Lead) → Gain
  Heard : (octets : List ℕ) → Gain

abbrev pub gained_by : Gain → Near → Near
gained_by (Led lead) v = led_by lead v
gained_by (Heard octets) v = hears (data_closed v) octets

-- it heard some
abbrev pub is_heard : Gain → Bool
is_heard (Led lead) = false
is_heard (Heard octets) = true

-- ---- both

-- dials of either may fail
abbrev pub dial_faults_either_way : Faults
dial_faults_either_way = record no_faults_either_way {
  Serves = IsServingOrUnconnected;
  Asks = IsAskingOrUnconnected;
  IsAnswer = IsAnswerBy IsCarried ClientTriesEitherWay;
  AreMarks = λ turns start now led client_start client client_led marks. marks ≡ marks_in_turns turns;
}

-- one server's drive and drives of one client did these actions in this order, and the ports of both are those of a world
abbrev pub DidTryEitherWay : Beginning → (moments : ℕ → ℕ) → List Turn → Between → (server : Stand server_side) (client : Stand client_side) → Type 0
DidTryEitherWay b moments turns between server client = Did dial_faults_either_way b moments turns between server client

-- A world holds what both ends hold: a close, a report, a port and an opening that are due are done there, at either end, and its client heard what a dial that
-- failed comes after; the moment that the server was told last is any. The control connection stands, and the world has these marks.
pub record HoldsMarkedTurns (marks : List (List Mark)) (server : Stand server_side) (client : Stand client_side) (told : List Said) (w : World) : Type 0 where
  pub moment : ℕ
  pub ahead : Ahead
  pub gain : Gain
  pub fits : Fits ahead server.owner.end.server.view.session.connection
  pub near : IsNear w.near (data_closed (reports (gained_by gain client.owner.end.view)))
  pub far : w.far ≡ clock_step moment (far_ahead ahead server.owner.end.server.view)
  pub reported : w.reports ≡ told ++ option_to_list (report_of client.owner.end.view)
  pub control : w.control ≡ Stands
  pub marked : w.marks ≡ marks
  pub cutoff : w.cutoff ≡ None

-- events of a world lead from the beginning to one that holds what both ends hold, and whose marks are those of the dials that failed; they began the same
-- operations at these moments; its client heard octets that the drive's did not only where a dial of the server failed
pub record TryIsOfWorldEitherWay (read : Reading) (b : Beginning) (moments : ℕ → ℕ) (turns : List Turn) (server : Stand server_side)
    (client : Stand client_side) : Type 0 where
  pub events : List Event
  pub timed : AreTimed events
  pub world : World
  pub leads : Leads read (world_of b) events (begun_at moments (client_actions turns)) world
  pub both : HoldsMarkedTurns (marks_in_turns turns) server client (reports_in (client_actions turns)) world
  pub heard : is_heard both.gain ≡ true → has_failed turns ≡ true

-- so it is of any such actions
abbrev pub TriesAreOfWorldsEitherWay : Type 0
TriesAreOfWorldsEitherWay =
    (read : Reading) → IsReading read → (b : Beginning) → IsFair b → (moments : ℕ → ℕ) → AreMoments moments
    → (turns : List Turn) (between : Between) (server : Stand server_side) (client : Stand client_side)
    → DidTryEitherWay b moments turns between server client → TryIsOfWorldEitherWay read b moments turns server client

-- so reports and map agree with what was begun, a report that was not taken yet among them: an operation is not opened only where a dial of either failed,
-- and every other is whole
abbrev pub TriesAgreeEitherWay : Type 0
TriesAgreeEitherWay =
    (b : Beginning) → IsFair b → (moments : ℕ → ℕ) → AreMoments moments
    → (turns : List Turn) (between : Between) (server : Stand server_side) (client : Stand client_side)
    → DidTryEitherWay b moments turns between server client
    → Agrees (state_of b) (begun_at moments (client_actions turns)) (marks_in_turns turns) None
    (reports_in (client_actions turns) ++ option_to_list (report_of client.owner.end.view)) server.owner.end.server.view.session.table

-- so they do where both ends are told then, whatever was on its way, that the control connection ended: an operation that has no report is lost
abbrev pub TriesPartingAgreeEitherWay : Type 0
TriesPartingAgreeEitherWay =
    (b : Beginning) → IsFair b → (moments : ℕ → ℕ) → AreMoments moments
    → (turns : List Turn) (between : Between) (server : Stand server_side) (client : Stand client_side)
    → DidTryEitherWay b moments turns between server client
    → Agrees (state_of b) (begun_at moments (client_actions turns)) (marks_in_turns turns) (Some (length (marks_in_turns turns)))
    (reports_in (client_actions turns) ++ option_to_list (report_of (control_end client.owner.end.view))) server.owner.end.server.view.session.table
