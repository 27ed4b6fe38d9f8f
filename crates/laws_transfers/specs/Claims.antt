-- What is claimed of two drives by their actions, in any order in which each can happen, where whole files were put and fetched, and listings, over passive
-- data connections: a list of the world's events leads from the beginning to what both ends hold; so there is agreement, and the direct run.
use Rattle.std.specs.Prelude.{◌≡◌, ◌⊎◌, ⊤, ℕ, false, List, ◌++◌, None, option_to_list}
use Rattle.ftp_ports.specs.Actions.{Stand}
use Rattle.ftp_client_driver.specs.Side.{client_side}
use Rattle.ftp_client_model.specs.Calls.{data_closed, report_of, reports}
use Rattle.ftp_client_model.specs.View.{View as Near}
use Rattle.ftp_client_model.specs.declared.client.ClientLink.TheVariants as Data
use Rattle.ftp_client_model.specs.declared.client.Ending.TheVariants as Endings
use Rattle.ftp_operation.specs.Answer.{Said}
use Rattle.laws_drivers.specs.control.Alone.{reports_in}
use Rattle.laws_drivers.specs.control.Between.{Between, Turn, client_actions, server_actions}
use Rattle.laws_drivers.specs.world.Unaborted.{is_unaborted}
use Rattle.laws_drivers.specs.events.Actions.{ArePorts}
use Rattle.laws_drivers.specs.events.Answers.{IsAnswerBy}
use Rattle.laws_drivers.specs.events.Faults.{Agree, AreTheDirectRun, Did, Faults, PartingAgree}
use Rattle.laws_drivers.specs.events.Moments.{AreMoments, begun_at}
use Rattle.laws_transfers.specs.Ahead.{Ahead, Fits, far_ahead, is_parted_ahead}
use Rattle.laws_transfers.specs.Actions.{AreGranted, AreResets, ClientTransfers, IsAsking, IsServing, IsTransferred}
use Rattle.laws_world.specs.Agreement.{Leads}
use Rattle.laws_world.specs.Claims.{AreTimed, AreUnmarked, Beginning, IsFair, world_of}
use Rattle.laws_world.specs.Events.{Event}
use Rattle.laws_world.specs.World.{Stands, World}
use Rattle.ftp_server_driver.specs.alone.Side.{server_side}
use Rattle.ftp_server_model.specs.Calls.{clock_step}
use Rattle.ftp_server_model.specs.Machine.{IsReading, Reading}

-- whole files are put and fetched, and listings, over data connections that the server listens for, and nothing of one fails
abbrev pub no_faults : Faults
no_faults = record {
  Serves = IsServing;
  Asks = IsAsking;
  ArePorts = λ turns. ArePorts (server_actions turns);
  AreOrdered = λ moments turns between happened start now led. AreResets turns between happened;
  AreShort = λ actions start now led. ⊤;
  IsAnswer = IsAnswerBy IsTransferred ClientTransfers;
  AreMarks = λ turns start now led client_start client client_led marks. AreUnmarked marks;
}

-- one server's drive and drives of one client did these actions in this order
abbrev pub DidTransfer : Beginning → (moments : ℕ → ℕ) → List Turn → Between → (server : Stand server_side) (client : Stand client_side) → Type 0
DidTransfer b moments turns between server client = Did no_faults b moments turns between server client

-- a client that sent ABOR and was told that its link broke was told there that it ended: that is all the same to its answer
pub record IsToldEnd (there here : Near) : Type 0 where
  pub aborted : is_unaborted here.job ≡ false
  pub broke : here.connection ≡ Data.Over Endings.Broken
  pub is : there ≡ record here { connection = Data.Over Endings.Clean }

-- it is the same client, or such a one
abbrev pub IsNear : (there here : Near) → Type 0
IsNear there here = (there ≡ here) ⊎ IsToldEnd there here

-- A world holds what both ends hold: a close, a report, a port and an opening that are due are done there, and so is the end of a data connection that the
-- client left before anything was asked for over it; the moment that the server was told last is any. The control connection stands, and no link was refused or
-- broke.
pub record HoldsBoth (server : Stand server_side) (client : Stand client_side) (told : List Said) (w : World) : Type 0 where
  pub moment : ℕ
  pub ahead : Ahead
  pub fits : Fits ahead server.owner.end.server.view.session.connection
  pub near : IsNear w.near (data_closed (reports client.owner.end.view))
  pub far : w.far ≡ clock_step moment (far_ahead ahead server.owner.end.server.view)
  pub reported : w.reports ≡ told ++ option_to_list (report_of client.owner.end.view)
  pub control : w.control ≡ Stands
  pub marks : AreUnmarked w.marks
  pub cutoff : w.cutoff ≡ None

-- events of a world lead from the beginning to one that holds what both ends hold, and began the same operations at these moments; it was told of no such end
-- where REST takes each offset
pub record TransferIsOfWorld (read : Reading) (b : Beginning) (moments : ℕ → ℕ) (turns : List Turn) (server : Stand server_side)
    (client : Stand client_side) : Type 0 where
  pub events : List Event
  pub timed : AreTimed events
  pub world : World
  pub leads : Leads read (world_of b) events (begun_at moments (client_actions turns)) world
  pub both : HoldsBoth server client (reports_in (client_actions turns)) world
  pub granted : AreGranted (begun_at moments (client_actions turns)) → is_parted_ahead both.ahead ≡ false

-- so it is of any such actions
abbrev pub TransfersAreOfWorlds : Type 0
TransfersAreOfWorlds =
    (read : Reading) → IsReading read → (b : Beginning) → IsFair b → (moments : ℕ → ℕ) → AreMoments moments
    → (turns : List Turn) (between : Between) (server : Stand server_side) (client : Stand client_side)
    → DidTransfer b moments turns between server client → TransferIsOfWorld read b moments turns server client

-- so reports and map agree with what was begun, a report that was not taken yet among them
abbrev pub TransfersAgree : Type 0
TransfersAgree = Agree no_faults

-- so they do where both ends are told then, whatever was on its way, that the control connection ended: an operation that has no report is lost
abbrev pub TransfersPartingAgree : Type 0
TransfersPartingAgree = PartingAgree no_faults

-- where each operation has its report, reports and map are those of the operations run directly
abbrev pub TransfersAreTheDirectRun : Type 0
TransfersAreTheDirectRun = AreTheDirectRun no_faults
