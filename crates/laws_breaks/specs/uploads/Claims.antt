-- What is claimed of two drives of which data connections break, those of uploads too.
use Rattle.std.specs.Prelude.{◌≡◌, ◌⊎◌, ⊤, ℕ, List}
use Rattle.ftp_ports.specs.Actions.{Stand}
use Rattle.ftp_client_driver.specs.Side.{client_side}
use Rattle.ftp_client_model.specs.Calls.{data_closed, data_fault, hears, reports}
use Rattle.ftp_client_model.specs.View.{View}
use Rattle.laws_breaks.specs.downloads.Claims.{AreSame, IsClientFirst, IsServerFirst, ReportAlike}
use Rattle.laws_breaks.specs.uploads.Actions.{AreCutAt, AreMarks, IsGiving, IsLosing}
use Rattle.laws_drivers.specs.control.Alone.{reports_in}
use Rattle.laws_drivers.specs.control.Between.{Between, Turn, client_actions, server_actions}
use Rattle.laws_drivers.specs.events.Actions.{AreMidst, ArePorts}
use Rattle.laws_drivers.specs.events.Faults.{Agree, Did, Faults, PartingAgree}
use Rattle.laws_drivers.specs.events.Moments.{AreMoments, begun_at}
use Rattle.laws_transfers.specs.Refusals.{HoldsMarked}
use Rattle.laws_world.specs.Agreement.{Leads}
use Rattle.laws_world.specs.Claims.{AreTimed, Beginning, IsFair, world_of}
use Rattle.laws_world.specs.Events.{Event}
use Rattle.laws_world.specs.World.{Mark, World}
use Rattle.ftp_server_driver.specs.alone.Side.{server_side}
use Rattle.ftp_server_model.specs.Machine.{IsReading, Reading}

-- data connections may break, those of uploads too, for either end
abbrev pub upload_faults : Faults
upload_faults = record {
  Serves = IsLosing;
  Asks = IsGiving;
  ArePorts = λ turns. ArePorts (server_actions turns);
  AreOrdered = λ moments turns between happened start now led. AreCutAt moments turns start now led;
  AreShort = λ actions start now led. ⊤;
  IsAnswer = λ op answer old new a. AreMidst a.drove.did.actions;
  AreMarks = AreMarks;
}

-- one server's drive and drives of one client did these actions in this order
abbrev pub DidCut : Beginning → (moments : ℕ → ℕ) → List Turn → Between → (server : Stand server_side) (client : Stand client_side) → Type 0
DidCut b moments turns between server client = Did upload_faults b moments turns between server client

-- the server was told of the break of an upload, and its client was not: both are told in the world, whose client heard none of the octets that this one heard
-- since
pub record IsTakerFirst (server were : Stand server_side) (client was : Stand client_side) : Type 0 where
  pub same : were.owner.end ≡ server.owner.end
  pub before : View
  pub told : was.owner.end.view ≡ data_fault before
  pub heard : List ℕ
  pub near : client.owner.end.view ≡ hears before heard

-- one of these cases
abbrev pub IsBeside : (server were : Stand server_side) (client was : Stand client_side) → Type 0
IsBeside server were client was =
    AreSame server were client was
    ⊎ (IsClientFirst server were client was ⊎ (IsServerFirst server were client was ⊎ IsTakerFirst server were client was))

-- Events of a world lead from the beginning to one that holds what the server holds and what the client holds; or what both held before one of them was told of
-- a break that a world tells later, once the server has let the data connection go, or the other was told, too; or in which the client was told of one before
-- this client was. It has marks of these actions; they began the same operations at these moments.
pub record CutIsOfWorld (read : Reading) (b : Beginning) (moments : ℕ → ℕ) (turns : List Turn) (between : Between) (server : Stand server_side)
    (client : Stand client_side) (did : DidCut b moments turns between server client) : Type 0 where
  pub events : List Event
  pub timed : AreTimed events
  pub world : World
  pub leads : Leads read (world_of b) events (begun_at moments (client_actions turns)) world
  pub marks : List (List Mark)
  pub are_marks : AreMarks turns did.server_start server did.server_led did.client_start client did.client_led marks
  pub were : Stand server_side
  pub was : Stand client_side
  pub is : IsBeside server were client was
  pub alike : ReportAlike client.owner.end.view was.owner.end.view
  pub table : server.owner.end.server.view.session.table ≡ were.owner.end.server.view.session.table
  pub both : HoldsMarked marks were was (reports_in (client_actions turns)) world
  pub near : world.near ≡ data_closed (reports was.owner.end.view)

-- so it is of any such actions
abbrev pub CutsAreOfWorlds : Type 0
CutsAreOfWorlds =
    (read : Reading) → IsReading read → (b : Beginning) → IsFair b → (moments : ℕ → ℕ) → AreMoments moments
    → (turns : List Turn) (between : Between) (server : Stand server_side) (client : Stand client_side)
    → (did : DidCut b moments turns between server client) → CutIsOfWorld read b moments turns between server client did

-- so reports and map agree with what was begun, a report that was not taken yet among them: an operation is cut only where its client was told of a break, or,
-- of an upload, its server
abbrev pub CutsAgree : Type 0
CutsAgree = Agree upload_faults

-- so they do where both ends are told then, whatever was on its way, that the control connection ended: an operation that has no report is lost
abbrev pub CutsPartingAgree : Type 0
CutsPartingAgree = PartingAgree upload_faults
