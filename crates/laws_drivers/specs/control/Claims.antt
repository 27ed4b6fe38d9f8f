-- What is claimed of two drives by their actions, in any order in which each can happen, where no data connection was wanted: a list of the
-- world's events leads from the beginning to what both ends hold; so there is agreement, and the direct run.
use Rattle.std.specs.Prelude.{◌≡◌, ℕ, ◌≤◌, false, List, [], ◌∷◌, ◌++◌, length, Some, None, option_to_list}
use Rattle.ftp_ports.specs.Asking.{Asked}
use Rattle.ftp_ports.specs.Actions.{Ended, Led, Other, Stand}
use Rattle.ftp_ports.specs.Machine.{Left}
use Rattle.ftp_client_driver.specs.Side.{client_side}
use Rattle.ftp_client_model.specs.Calls.{control_end, is_busy, report_of}
use Rattle.ftp_client_model.specs.View.{client as client_view}
use Rattle.laws_drivers.specs.control.Alike.{IsAlike}
use Rattle.laws_drivers.specs.control.Alone.{AsksAlone, ServesAlone, begun_in, reports_in}
use Rattle.laws_drivers.specs.control.Between.{Between, Happened, Turn, client_actions, server_actions}
use Rattle.laws_world.specs.Agreement.{Agrees, Leads}
use Rattle.laws_world.specs.Claims.{AreAnswers, AreTimed, AreUnmarked, Beginning, IsFair, state_of, world_of}
use Rattle.laws_world.specs.Events.{Event}
use Rattle.laws_world.specs.World.{Mark, World}
use Rattle.ftp_server_driver.specs.alone.Side.{server_side}
use Rattle.ftp_server_model.specs.Calls.{start as server_view}
use Rattle.ftp_server_model.specs.Machine.{IsReading, Reading}
use Rattle.ftp_tree.specs.Sound.{last_second}

-- both ends as a session begins, of whose control connection nothing was read
pub record Begins (b : Beginning) (server : Stand server_side) (client : Stand client_side) : Type 0 where
  pub server_view : server.owner.end.server.view ≡ server_view b.table b.accounts b.far_host b.near_host
  pub server_unheard : server.unheard ≡ []
  pub client_view : client.owner.end.view ≡ client_view b.user b.pass b.near_host b.far_host
  pub client_unheard : client.unheard ≡ []

-- one server's drive and drives of one client did these actions in this order, each when it could be done, over control alone
pub record Did (b : Beginning) (turns : List Turn) (between : Between) (server : Stand server_side) (client : Stand client_side) : Type 0 where
  pub server_start : Stand server_side
  pub client_start : Stand client_side
  pub begins : Begins b server_start client_start
  pub happened : Happened turns between
  pub server_led : Led (server_actions turns) server_start server
  pub client_led : Led (client_actions turns) client_start client
  pub serves : ServesAlone (server_actions turns) server_start server server_led
  pub asks : AsksAlone (client_actions turns) client_start client client_led

-- events of a world lead from the beginning to what both ends hold, and began the same operations
pub record IsOfWorld (read : Reading) (b : Beginning) (moment : ℕ) (turns : List Turn) (between : Between) (server : Stand server_side)
    (client : Stand client_side) : Type 0 where
  pub events : List Event
  pub timed : AreTimed events
  pub world : World
  pub leads : Leads read (world_of b) events (begun_in moment (client_actions turns)) world
  pub alike : IsAlike between.control server client (reports_in (client_actions turns)) world

-- so it is of any such actions, at any moment
abbrev pub DrivesAreOfWorlds : Type 0
DrivesAreOfWorlds =
    (read : Reading) → IsReading read → (b : Beginning) (moment : ℕ) → moment ≤ last_second
    → (turns : List Turn) (between : Between) (server : Stand server_side) (client : Stand client_side)
    → Did b turns between server client → IsOfWorld read b moment turns between server client

-- so reports and map agree with what was begun, a report that was not taken yet among them
abbrev pub DrivesAgree : Type 0
DrivesAgree =
    (b : Beginning) → IsFair b → (moment : ℕ) → moment ≤ last_second
    → (turns : List Turn) (between : Between) (server : Stand server_side) (client : Stand client_side)
    → Did b turns between server client → (marks : List (List Mark)) × AreUnmarked marks
    × Agrees (state_of b) (begun_in moment (client_actions turns)) marks None
    (reports_in (client_actions turns) ++ option_to_list (report_of client.owner.end.view)) server.owner.end.server.view.session.table

-- so they do where both ends are told then that the control connection ended: an operation that has no report is lost
abbrev pub PartingAgrees : Type 0
PartingAgrees =
    (b : Beginning) → IsFair b → (moment : ℕ) → moment ≤ last_second
    → (turns : List Turn) (between : Between) (server : Stand server_side) (client : Stand client_side)
    → Did b turns between server client → (marks : List (List Mark)) × AreUnmarked marks
    × Agrees (state_of b) (begun_in moment (client_actions turns)) marks (Some (length marks))
    (reports_in (client_actions turns) ++ option_to_list (report_of (control_end client.owner.end.view))) server.owner.end.server.view.session.table

-- where each operation has its report, they are those of the operations run directly
abbrev pub DrivesAreTheDirectRun : Type 0
DrivesAreTheDirectRun =
    (b : Beginning) → IsFair b → (moment : ℕ) → moment ≤ last_second
    → (turns : List Turn) (between : Between) (server : Stand server_side) (client : Stand client_side)
    → Did b turns between server client → is_busy client.owner.end.view ≡ false
    → length (reports_in (client_actions turns)) ≡ length (begun_in moment (client_actions turns))
    → AreAnswers (state_of b) (begun_in moment (client_actions turns)) (reports_in (client_actions turns)) server.owner.end.server.view.session.table

-- a server that is told that the control connection ended, and whose data connection is left, keeps the map
abbrev pub EndsKeepTheMap : Type 0
EndsKeepTheMap =
    (asked : Asked) (old new : Stand server_side) → Led (Other (Left asked) ∷ Ended ∷ []) old new
    → new.owner.end.server.view.session.table ≡ old.owner.end.server.view.session.table
