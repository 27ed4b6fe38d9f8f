-- What is claimed of two drives by their actions, in any order in which each can happen, where files were put, fetched and peeked into, and listings, over data
-- connections that either dialled: a list of the world's events leads from the beginning to what both ends hold; so there is agreement, and the direct run.
use Rattle.std.specs.Prelude.{◌≡◌, ⊤, ℕ, List, ◌++◌, None, option_to_list}
use Rattle.ftp_ports.specs.Actions.{Stand}
use Rattle.ftp_client_driver.specs.Side.{client_side}
use Rattle.ftp_client_model.specs.Calls.{data_closed, report_of, reports}
use Rattle.ftp_operation.specs.Answer.{Said}
use Rattle.laws_drivers.specs.control.Alone.{reports_in}
use Rattle.laws_drivers.specs.control.Between.{Between, Turn, client_actions}
use Rattle.laws_drivers.specs.events.Answers.{IsAnswerBy}
use Rattle.laws_drivers.specs.events.Faults.{Agree, AreTheDirectRun, Did, Faults, PartingAgree}
use Rattle.laws_drivers.specs.events.Moments.{AreMoments, begun_at}
use Rattle.laws_transfers.specs.Ahead.{Ahead, Fits, far_ahead}
use Rattle.laws_transfers.specs.Claims.{DidTransfer, IsNear}
use Rattle.laws_transfers.specs.Actions.{AreResets, IsCarried}
use Rattle.laws_world.specs.Agreement.{Leads}
use Rattle.laws_world.specs.Claims.{AreTimed, AreUnmarked, Beginning, IsFair, world_of}
use Rattle.laws_world.specs.Events.{Event}
use Rattle.laws_world.specs.World.{Stands, World}
use Rattle.ftp_server_driver.specs.alone.Side.{server_side}
use Rattle.ftp_server_model.specs.Calls.{clock_step}
use Rattle.ftp_server_model.specs.Machine.{IsReading, Reading}
use Rattle.laws_active.specs.Actions.{ArePortsOfTurns, ClientTransfersEitherWay, IsAskingOrListening, IsServingOrDialling}
use Rattle.laws_active.specs.Lead.{Lead, led_by}

-- files are put, fetched and peeked into, and listings, over data connections that either dials, and nothing of one fails
abbrev pub no_faults_either_way : Faults
no_faults_either_way = record {
  Serves = IsServingOrDialling;
  Asks = IsAskingOrListening;
  ArePorts = ArePortsOfTurns;
  AreOrdered = λ moments turns between happened start now led. AreResets turns between happened;
  AreShort = λ actions start now led. ⊤;
  IsAnswer = IsAnswerBy IsCarried ClientTransfersEitherWay;
  AreMarks = λ turns start now led client_start client client_led marks. AreUnmarked marks;
}

-- one server's drive and drives of one client did these actions in this order, and the ports of both are those of a world
abbrev pub DidEither : Beginning → (moments : ℕ → ℕ) → List Turn → Between → (server : Stand server_side) (client : Stand client_side) → Type 0
DidEither b moments turns between server client = Did no_faults_either_way b moments turns between server client

-- A world holds what both ends hold: a close, a report, a port and an opening that are due are done there, at either end; the moment that the server was told
-- last is any. The control connection stands, and no link was refused or broke.
pub record HoldsBothEitherWay (server : Stand server_side) (client : Stand client_side) (told : List Said) (w : World) : Type 0 where
  pub moment : ℕ
  pub ahead : Ahead
  pub lead : Lead
  pub fits : Fits ahead server.owner.end.server.view.session.connection
  pub near : IsNear w.near (data_closed (reports (led_by lead client.owner.end.view)))
  pub far : w.far ≡ clock_step moment (far_ahead ahead server.owner.end.server.view)
  pub reported : w.reports ≡ told ++ option_to_list (report_of client.owner.end.view)
  pub control : w.control ≡ Stands
  pub marks : AreUnmarked w.marks
  pub cutoff : w.cutoff ≡ None

-- events of a world lead from the beginning to one that holds what both ends hold, and began the same operations at these moments
pub record EitherIsOfWorld (read : Reading) (b : Beginning) (moments : ℕ → ℕ) (turns : List Turn) (server : Stand server_side)
    (client : Stand client_side) : Type 0 where
  pub events : List Event
  pub timed : AreTimed events
  pub world : World
  pub leads : Leads read (world_of b) events (begun_at moments (client_actions turns)) world
  pub both : HoldsBothEitherWay server client (reports_in (client_actions turns)) world

-- so it is of any such actions
abbrev pub EitherAreOfWorlds : Type 0
EitherAreOfWorlds =
    (read : Reading) → IsReading read → (b : Beginning) → IsFair b → (moments : ℕ → ℕ) → AreMoments moments
    → (turns : List Turn) (between : Between) (server : Stand server_side) (client : Stand client_side)
    → DidEither b moments turns between server client → EitherIsOfWorld read b moments turns server client

-- so reports and map agree with what was begun, a report that was not taken yet among them
abbrev pub EitherAgree : Type 0
EitherAgree = Agree no_faults_either_way

-- so they do where both ends are told then, whatever was on its way, that the control connection ended: an operation that has no report is lost
abbrev pub EitherPartingAgree : Type 0
EitherPartingAgree = PartingAgree no_faults_either_way

-- where each operation has its report, reports and map are those of the operations run directly
abbrev pub EitherAreTheDirectRun : Type 0
EitherAreTheDirectRun = AreTheDirectRun no_faults_either_way

-- actions of which the client alone dialled are such actions
abbrev pub PassiveIsEither : Type 0
PassiveIsEither =
    (b : Beginning) (moments : ℕ → ℕ) (turns : List Turn) (between : Between) (server : Stand server_side) (client : Stand client_side)
    → DidTransfer b moments turns between server client → DidEither b moments turns between server client
