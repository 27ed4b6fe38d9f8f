-- What is claimed of two drives of which a download's data connection breaks, for the client, the server, or both.
use Rattle.std.specs.Prelude.{◌≡◌, ◌⊎◌, ℕ, List, ◌++◌, None}
use Rattle.ftp_ports.specs.Actions.{Stand}
use Rattle.ftp_client_driver.specs.Side.{client_side}
use Rattle.ftp_client_model.specs.Calls.{control_end, data_closed, data_fault, hears, report_of, reports}
use Rattle.ftp_client_model.specs.Plan.{count_of}
use Rattle.ftp_client_model.specs.View.{View}
use Rattle.ftp_operation.specs.Answer.{Said}
use Rattle.ftp_operation.specs.declared.op.Op.{Op}
use Rattle.laws_breaks.specs.downloads.Actions.{AreAfter, AreMarks, AreShort, ClientSuffers, IsPeeking, IsToldShort, IsYielding}
use Rattle.laws_drivers.specs.control.Alone.{reports_in}
use Rattle.laws_drivers.specs.control.Between.{Between, Turn, client_actions, server_actions}
use Rattle.laws_drivers.specs.events.Actions.{Along, ArePorts}
use Rattle.laws_drivers.specs.events.Answers.{Answers, AnswersBy, actions_of_drive}
use Rattle.laws_drivers.specs.events.Faults.{Agree, Did, Faults, PartingAgree}
use Rattle.laws_drivers.specs.events.Moments.{AreMoments, begun_at}
use Rattle.laws_transfers.specs.Actions.{IsTransferred}
use Rattle.laws_transfers.specs.Claims.{IsToldEnd}
use Rattle.laws_transfers.specs.Refusals.{HoldsMarked}
use Rattle.laws_world.specs.Agreement.{Leads}
use Rattle.laws_world.specs.Claims.{AreTimed, Beginning, IsFair, world_of}
use Rattle.laws_world.specs.Events.{Event}
use Rattle.laws_world.specs.World.{Mark, World}
use Rattle.ftp_server_driver.specs.alone.Side.{server_side}
use Rattle.ftp_server_model.specs.Calls.{break_step, clock_step}
use Rattle.ftp_server_model.specs.Machine.{IsReading, Reading}

-- an operation was answered by such actions, and a Peek's client was told of a break only where less came than was asked for, or after ABOR
pub record AnswersSuffering {op : Op (List ℕ)} {answer : Said} {old new : Stand client_side} (a : Answers op answer old new) : Type 0 where
  pub by : AnswersBy IsTransferred ClientSuffers a
  pub short : (count_of op ≡ None) ⊎ Along (λ action at then. IsToldShort action at) (actions_of_drive a.drove) a.begun new a.drove.did.sums.led

-- downloads may break, for either end
abbrev pub download_faults : Faults
download_faults = record {
  Serves = IsYielding;
  Asks = IsPeeking;
  ArePorts = λ turns. ArePorts (server_actions turns);
  AreOrdered = λ moments turns between happened start now led. AreAfter turns between happened start now led;
  AreShort = AreShort;
  IsAnswer = λ op answer old new a. AnswersSuffering a;
  AreMarks = λ turns start now led client_start client client_led marks. AreMarks (client_actions turns) client_start client client_led marks;
}

-- one server's drive and drives of one client did these actions in this order
abbrev pub DidSuffer : Beginning → (moments : ℕ → ℕ) → List Turn → Between → (server : Stand server_side) (client : Stand client_side) → Type 0
DidSuffer b moments turns between server client = Did download_faults b moments turns between server client

-- two clients have the same report, now and where the control connection ends then
abbrev pub ReportAlike : (one other : View) → Type 0
ReportAlike one other = (report_of one ≡ report_of other) × (report_of (control_end one) ≡ report_of (control_end other))

-- both ends hold what these hold
abbrev pub AreSame : (server were : Stand server_side) (client was : Stand client_side) → Type 0
AreSame server were client was = (were.owner.end ≡ server.owner.end) × (was ≡ client)

-- the client was told of a break, and its server was not
abbrev pub IsClientFirst : (server were : Stand server_side) (client was : Stand client_side) → Type 0
IsClientFirst server were client was = (were.owner.end ≡ server.owner.end) × (client.owner.end.view ≡ data_fault was.owner.end.view)

-- the server was told of a break, and its client was not: it said some of what it owed then, and the client heard the first octets of that
pub record IsServerFirst (server were : Stand server_side) (client was : Stand client_side) : Type 0 where
  pub moment : ℕ
  pub said : List ℕ
  pub left : List ℕ
  pub far : server.owner.end.server.view ≡ record (break_step (clock_step moment were.owner.end.server.view)) { owed = left }
  pub whole : (break_step (clock_step moment were.owner.end.server.view)).owed ≡ said ++ left
  pub heard : List ℕ
  pub more : List ℕ
  pub front : said ≡ heard ++ more
  pub near : client.owner.end.view ≡ hears was.owner.end.view heard

-- the client of a Peek that sent ABOR was told that its link broke, and a world's that it ended: that is all the same to its answer
abbrev pub IsEndThere : (server were : Stand server_side) (client was : Stand client_side) → Type 0
IsEndThere server were client was = (were.owner.end ≡ server.owner.end) × IsToldEnd was.owner.end.view client.owner.end.view

-- Events of a world lead from the beginning to one that holds what the server holds and what the client holds, or what both held before one of them was told of
-- a break that a world tells later: once the server has let the data connection go, or the other was told, too. It has marks of these actions; they began the
-- same operations at these moments.
pub record SufferingIsOfWorld (read : Reading) (b : Beginning) (moments : ℕ → ℕ) (turns : List Turn) (between : Between) (server : Stand server_side)
    (client : Stand client_side) (did : DidSuffer b moments turns between server client) : Type 0 where
  pub events : List Event
  pub timed : AreTimed events
  pub world : World
  pub leads : Leads read (world_of b) events (begun_at moments (client_actions turns)) world
  pub marks : List (List Mark)
  pub are_marks : AreMarks (client_actions turns) did.client_start client did.client_led marks
  pub were : Stand server_side
  pub was : Stand client_side
  pub is : AreSame server were client was
      ⊎ (IsClientFirst server were client was ⊎ (IsServerFirst server were client was ⊎ IsEndThere server were client was))
  pub alike : ReportAlike client.owner.end.view was.owner.end.view
  pub table : server.owner.end.server.view.session.table ≡ were.owner.end.server.view.session.table
  pub both : HoldsMarked marks were was (reports_in (client_actions turns)) world
  pub near : world.near ≡ data_closed (reports was.owner.end.view)

-- so it is of any such actions
abbrev pub BreaksAreOfWorlds : Type 0
BreaksAreOfWorlds =
    (read : Reading) → IsReading read → (b : Beginning) → IsFair b → (moments : ℕ → ℕ) → AreMoments moments
    → (turns : List Turn) (between : Between) (server : Stand server_side) (client : Stand client_side)
    → (did : DidSuffer b moments turns between server client) → SufferingIsOfWorld read b moments turns between server client did

-- so reports and map agree with what was begun, a report that was not taken yet among them: an operation is cut only where the client was told of a break
abbrev pub BreaksAgree : Type 0
BreaksAgree = Agree download_faults

-- so they do where both ends are told then, whatever was on its way, that the control connection ended: an operation that has no report is lost
abbrev pub BreaksPartingAgree : Type 0
BreaksPartingAgree = PartingAgree download_faults
