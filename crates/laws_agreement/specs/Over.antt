-- An upload over breaks that is under way: its operations stand as if each were begun by itself, in a world whose client has no run.
use Rattle.std.specs.Prelude.{◌≡◌, ◌⊎◌, ℕ, ◌≤◌, true, List, [], ◌∷◌, ◌++◌, length, Some, None}
use Rattle.ftp_operation.specs.Answer.{Said}
use Rattle.ftp_operation.specs.Operation.{is_path_text}
use Rattle.ftp_operation.specs.declared.op.Op.{Op}
use Rattle.ftp_direct.specs.Direct.{State}
use Rattle.ftp_tree.specs.Sound.{last_second}
use Rattle.ftp_client_model.specs.Tries.{OverBreaks, Run, first_try, is_size, run_of}
use Rattle.ftp_client_model.specs.View.{View as Near}
use Rattle.ftp_server_model.specs.Machine.{Reading}
use Rattle.laws_world.specs.Agreement.{Order, Single, Tries}
use Rattle.laws_world.specs.World.{World, Mark}
use Rattle.laws_agreement.specs.Runs.{IsTrailing, Runs}
use Rattle.laws_agreement.specs.Tried.{Tried, tried_orders, tried_marks, tried_said, all_marks, IsChain, IsLastOfRun, IsTryOf, IsUnderWay}

-- the upload was begun last; these of its operations are answered, and this one is the last that was begun, with these marks of its link
pub record Going (begun : List Order) (w : World) : Type 0 where
  pub done : List Order
  pub marks : List (List Mark)
  pub upload : OverBreaks
  pub moment : ℕ
  pub past : List Tried
  pub run : Run
  pub op : Op (List ℕ)
  pub own : List Mark
  pub begun_is : begun ≡ done ++ Tries upload moment ∷ []
  pub marks_are : w.marks ≡ marks ++ all_marks past own ∷ []
  pub each : length marks ≡ length done
  pub chain : IsChain (run_of upload) (first_try upload) past run op
  pub of : run.upload ≡ upload
  pub one : IsTryOf upload op
  pub path_fine : is_path_text upload.path ≡ true
  pub dated : moment ≤ last_second

-- the orders and the marks, as if each operation were begun by itself
abbrev pub orders_alone : {begun : List Order} {w : World} → Going begun w → List Order
orders_alone g = g.done ++ (tried_orders g.moment g.past ++ Single g.op g.moment ∷ [])

abbrev pub marks_of : {begun : List Order} {w : World} → Going begun w → List (List Mark)
marks_of g = g.marks ++ (tried_marks g.past ++ g.own ∷ [])

-- an operation of it is under way: without the run the world is one in which that operation was begun by itself
pub record IsTrying (read : Reading) (from : State) (begun : List Order) (w : World) : Type 0 where
  pub going : Going begun w
  pub near : Near
  pub near_is : w.near ≡ record near { run = Some going.run }
  pub works : IsUnderWay going.op near.job near.connection
  pub all : length w.reports ≡ length going.done
  pub alone : Runs read from (orders_alone going) (record w { near = record near { run = None }; marks = marks_of going; reports = w.reports ++ tried_said going.past })
  pub timed : is_size going.op ≡ true → w.far.context.moment ≡ going.moment

-- it is answered, and the server was not told yet that the link of its last operation is closed
pub record IsTailing (read : Reading) (from : State) (begun : List Order) (w : World) : Type 0 where
  pub going : Going begun w
  pub reports : List Said
  pub said : Said
  pub all : length reports ≡ length going.done
  pub reports_are : w.reports ≡ reports ++ said ∷ []
  pub last : IsLastOfRun going.run going.op (Some said)
  pub alone : IsTrailing from (orders_alone going) (record w { marks = marks_of going; reports = reports ++ (tried_said going.past ++ said ∷ []) })

-- what holds after every event, uploads over breaks among them
abbrev pub OverRuns : Reading → State → List Order → World → Type 0
OverRuns read from begun w = Runs read from begun w ⊎ (IsTrying read from begun w ⊎ IsTailing read from begun w)
