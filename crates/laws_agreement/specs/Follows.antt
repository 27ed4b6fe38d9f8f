-- What holds after every event of a list whose operations have no transfer: how far the last operation is, and what came of those
-- before it.
use Rattle.std.specs.Prelude.{◌≡◌, ◌⊎◌, ℕ, ◌≤◌, true, false, List, [], ◌∷◌, ◌++◌, length, Option, Some, None}
use Rattle.ftp_operation.specs.Answer.{Said}
use Rattle.ftp_operation.specs.Operation.{can_be_sent}
use Rattle.ftp_operation.specs.declared.op.Op.{Op}
use Rattle.ftp_direct.specs.Direct.{State, answer}
use Rattle.ftp_client_model.specs.Calls.{report_of}
use Rattle.ftp_client_model.specs.View.{View as Near, Idle}
use Rattle.ftp_client_model.specs.declared.client.ClientLink.TheVariants as NearData
use Rattle.ftp_client_model.specs.declared.client.Failure.TheVariants as Failures
use Rattle.ftp_client_model.specs.declared.client.Standing.TheVariants as Standings
use Rattle.ftp_server_model.specs.Machine.{Reading}
use Rattle.ftp_server_model.specs.View.{View as Far}
use Rattle.ftp_server_model.specs.declared.session.ServerLink.TheVariants as FarData
use Rattle.ftp_server_model.specs.declared.session.Life.TheVariants as Lives
use Rattle.laws_world.specs.Agreement.{Order, Single, Item, state_after, ItemsHold}
use Rattle.laws_world.specs.World.{World, Mark, Stands, Parted, Gone}
use Rattle.laws_dialogues.specs.Dialogue.{HasNoTransfer, IsSound}
use Rattle.laws_dialogues.specs.Login.{AtFree, AtOperation}
use Rattle.laws_agreement.specs.Cut.{StandsAt}

-- each of these orders has its item and its report, and they leave this state
pub record Told (from : State) (done : List Order) (marks : List (List Mark)) (cutoff : Option ℕ) (reports : List Said) (now : State) : Type 0 where
  pub items : List Item
  pub all : length reports ≡ length done
  pub hold : ItemsHold from 0 done marks cutoff reports items
  pub now_is : now ≡ state_after from items

-- all that was begun has its report
pub record IsFree (from : State) (begun : List Order) (w : World) : Type 0 where
  pub now : State
  pub sound : IsSound now
  pub told : Told from begun w.marks None w.reports now
  pub stands : StandsAt (AtFree now) w

-- the last has none yet: it waits for the login, or is under way to the answer of the direct run
pub record IsUnder (read : Reading) (from : State) (begun : List Order) (w : World) : Type 0 where
  pub done : List Order
  pub marks : List (List Mark)
  pub op : Op (List ℕ)
  pub moment : ℕ
  pub begun_is : begun ≡ done ++ Single op moment ∷ []
  pub marks_are : w.marks ≡ marks ++ [] ∷ []
  pub now : State
  pub sound : IsSound now
  pub told : Told from done marks None w.reports now
  pub alone : HasNoTransfer op
  pub sent : can_be_sent op ≡ true
  pub stands : StandsAt (AtOperation read now op (answer now op moment)) w

-- the client behind the end of the control connection: silent, and each operation is answered Lost
pub record NearLost (n : Near) : Type 0 where
  pub standing : n.standing ≡ Standings.Failed Failures.Lost
  pub job : n.job ≡ Idle
  pub connection : n.connection ≡ NearData.Free
  pub closing : n.closing ≡ false
  pub owed : n.owed ≡ []

-- the server behind it
pub record FarLost (f : Far) : Type 0 where
  pub life : f.session.life ≡ Lives.Cut
  pub closing : f.session.closing ≡ false
  pub connection : f.session.connection ≡ FarData.Free
  pub waiting : f.waiting ≡ None
  pub owed : f.owed ≡ []

-- the control connection has ended: all that was begun has its report, Lost from the last before the end on
pub record IsLost (from : State) (begun : List Order) (w : World) : Type 0 where
  pub now : State
  pub cutoff : ℕ
  pub cut_is : w.cutoff ≡ Some cutoff
  pub early : cutoff ≤ length begun
  pub told : Told from begun w.marks (Some cutoff) w.reports now
  pub near : NearLost w.near
  pub far : FarLost w.far
  pub table : w.far.session.table ≡ now.table
  pub control : w.control ≡ Parted
  pub to_server : w.control_to_server ≡ []
  pub to_client : w.control_to_client ≡ []

-- the control connection stands
pub record IsLinked (w : World) : Type 0 where
  pub control : w.control ≡ Stands
  pub cutoff : w.cutoff ≡ None

-- no data connection stands
pub record IsUnlinked (w : World) : Type 0 where
  pub link : w.link ≡ Gone
  pub to_server : w.data_to_server ≡ []
  pub to_client : w.data_to_client ≡ []

-- one of the three
abbrev pub Phase : Reading → State → List Order → World → Type 0
Phase read from begun w = (IsLinked w × (IsFree from begun w ⊎ IsUnder read from begun w)) ⊎ IsLost from begun w

-- a world that follows the operations begun, from a state; each report is taken at once
pub record Follows (read : Reading) (from : State) (begun : List Order) (w : World) : Type 0 where
  pub unlinked : IsUnlinked w
  pub untold : report_of w.near ≡ None
  pub phase : Phase read from begun w
