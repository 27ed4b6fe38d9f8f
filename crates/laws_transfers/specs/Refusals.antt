-- One server's drive and drives of one client that put and fetch as those of `Actions` do, but for dials of the client's that fail: the marks that a world makes
-- of the operations begun, and what is claimed of both (RFC 959, section 3.2).
use Rattle.std.specs.Prelude.{◌≡◌, ⊤, ℕ, false, List, [], ◌∷◌, ◌++◌, length, None, Some, option_to_list}
use Rattle.ftp_ports.specs.Asking.{NotConnected}
use Rattle.ftp_ports.specs.Actions.{Action, Led, Other, Stand}
use Rattle.ftp_ports.specs.Machine.{Aside, Held, Refused}
use Rattle.ftp_client_driver.specs.Side.{Starting, client_side}
use Rattle.ftp_client_model.specs.Calls.{control_end, data_closed, report_of, reports}
use Rattle.ftp_client_model.specs.Failing.{Client}
use Rattle.ftp_operation.specs.Answer.{Said}
use Rattle.laws_drivers.specs.control.Alone.{ClientIsCalm, reports_in}
use Rattle.laws_drivers.specs.control.Between.{Between, Turn, client_actions}
use Rattle.laws_drivers.specs.events.Actions.{Along}
use Rattle.laws_drivers.specs.events.Answers.{IsAnswerBy}
use Rattle.laws_drivers.specs.events.Faults.{Did, Faults}
use Rattle.laws_drivers.specs.events.Moments.{AreMoments, begun_at}
use Rattle.laws_transfers.specs.Ahead.{Ahead, Fits, far_ahead, is_parted_ahead}
use Rattle.laws_transfers.specs.Claims.{IsNear, no_faults}
use Rattle.laws_transfers.specs.Actions.{AreGranted, IsAsking, IsTransferred}
use Rattle.laws_world.specs.Agreement.{Agrees, Leads}
use Rattle.laws_world.specs.Claims.{AreTimed, Beginning, IsFair, state_of, world_of}
use Rattle.laws_world.specs.Events.{Event}
use Rattle.laws_world.specs.World.{Mark, Refused as WasRefused, Stands, World, marked_last}
use Rattle.ftp_server_driver.specs.alone.Side.{server_side}
use Rattle.ftp_server_model.specs.Calls.{clock_step}
use Rattle.ftp_server_model.specs.Machine.{IsReading, Reading}

-- ---- the client

-- a dial of it fails, or it does what it does where none fails
abbrev pub IsAskingOrRefused : Action client_side → Held Client → Type 0
IsAskingOrRefused (Other (Refused (NotConnected endpoint ∷ []))) at = ⊤
IsAskingOrRefused action at = IsAsking action at

-- so it does, and it was not refused memory
abbrev pub ClientTries : Action client_side → (old new : Held Client) → Type 0
ClientTries action old new = IsAskingOrRefused action old × ClientIsCalm old new

abbrev pub TriesAlong : (actions : List (Action client_side)) (start now : Stand client_side) → Led actions start now → Type 0
TriesAlong actions start now led = Along ClientTries actions start now led

-- ---- the marks

-- an operation that is begun has none; one whose dial fails is marked, as that which was begun last
abbrev pub marked_by : Action client_side → List (List Mark) → List (List Mark)
marked_by (Other (Aside (Starting op))) marks = marks ++ [] ∷ []
marked_by (Other (Refused asked)) marks = marked_last WasRefused marks
marked_by action marks = marks

-- those of each operation that was begun in actions, the last one first
abbrev pub marks_in : List (Action client_side) → List (List Mark)
marks_in [] = []
marks_in (action ∷ before) = marked_by action (marks_in before)

-- ---- both

-- dials of the client may fail
abbrev pub dial_faults : Faults
dial_faults = record no_faults {
  Asks = IsAskingOrRefused;
  IsAnswer = IsAnswerBy IsTransferred ClientTries;
  AreMarks = λ turns start now led client_start client client_led marks. marks ≡ marks_in (client_actions turns);
}

-- one server's drive and drives of one client did these actions in this order
abbrev pub DidTry : Beginning → (moments : ℕ → ℕ) → List Turn → Between → (server : Stand server_side) (client : Stand client_side) → Type 0
DidTry b moments turns between server client = Did dial_faults b moments turns between server client

-- A world holds what both ends hold, as where no dial fails, and has these marks.
pub record HoldsMarked (marks : List (List Mark)) (server : Stand server_side) (client : Stand client_side) (told : List Said) (w : World) : Type 0 where
  pub moment : ℕ
  pub ahead : Ahead
  pub fits : Fits ahead server.owner.end.server.view.session.connection
  pub near : IsNear w.near (data_closed (reports client.owner.end.view))
  pub far : w.far ≡ clock_step moment (far_ahead ahead server.owner.end.server.view)
  pub reported : w.reports ≡ told ++ option_to_list (report_of client.owner.end.view)
  pub control : w.control ≡ Stands
  pub marked : w.marks ≡ marks
  pub cutoff : w.cutoff ≡ None

-- events of a world lead from the beginning to one that holds what both ends hold, and whose marks are those of the dials that failed; they began the same
-- operations at these moments; it was told of no end of a link over which nothing was asked for, where REST takes each offset
pub record TryIsOfWorld (read : Reading) (b : Beginning) (moments : ℕ → ℕ) (turns : List Turn) (server : Stand server_side)
    (client : Stand client_side) : Type 0 where
  pub events : List Event
  pub timed : AreTimed events
  pub world : World
  pub leads : Leads read (world_of b) events (begun_at moments (client_actions turns)) world
  pub both : HoldsMarked (marks_in (client_actions turns)) server client (reports_in (client_actions turns)) world
  pub granted : AreGranted (begun_at moments (client_actions turns)) → is_parted_ahead both.ahead ≡ false

-- so it is of any such actions
abbrev pub TriesAreOfWorlds : Type 0
TriesAreOfWorlds =
    (read : Reading) → IsReading read → (b : Beginning) → IsFair b → (moments : ℕ → ℕ) → AreMoments moments
    → (turns : List Turn) (between : Between) (server : Stand server_side) (client : Stand client_side)
    → DidTry b moments turns between server client → TryIsOfWorld read b moments turns server client

-- so reports and map agree with what was begun, a report that was not taken yet among them: an operation is not opened only where its dial failed, and every
-- other is whole
abbrev pub TriesAgree : Type 0
TriesAgree =
    (b : Beginning) → IsFair b → (moments : ℕ → ℕ) → AreMoments moments
    → (turns : List Turn) (between : Between) (server : Stand server_side) (client : Stand client_side)
    → DidTry b moments turns between server client
    → Agrees (state_of b) (begun_at moments (client_actions turns)) (marks_in (client_actions turns)) None
    (reports_in (client_actions turns) ++ option_to_list (report_of client.owner.end.view)) server.owner.end.server.view.session.table

-- so they do where both ends are told then, whatever was on its way, that the control connection ended: an operation that has no report is lost
abbrev pub TriesPartingAgree : Type 0
TriesPartingAgree =
    (b : Beginning) → IsFair b → (moments : ℕ → ℕ) → AreMoments moments
    → (turns : List Turn) (between : Between) (server : Stand server_side) (client : Stand client_side)
    → DidTry b moments turns between server client
    → Agrees (state_of b) (begun_at moments (client_actions turns)) (marks_in (client_actions turns)) (Some (length (marks_in (client_actions turns))))
    (reports_in (client_actions turns) ++ option_to_list (report_of (control_end client.owner.end.view))) server.owner.end.server.view.session.table
