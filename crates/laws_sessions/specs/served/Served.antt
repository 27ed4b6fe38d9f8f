-- Two drives of which the server's is that of a session of several over one tree: what its client's drives reported, and the map, agree after each turn, and
-- are the direct run's where it is over.
use Rattle.std.specs.Prelude.{◌≡◌, ℕ, ◌≤◌, List, ◌∷◌, ◌++◌, length, Option, Some, None, option_to_list}
use Rattle.std.specs.declared.result.Result.TheVariants.{Ok}
use Rattle.ftp_ports.specs.Actions.{Action as ActionOf, Stand}
use Rattle.ftp_driver.specs.declared.drive.Turned.TheVariants as Turns
use Rattle.ftp_client_driver.specs.Side.{client_side}
use Rattle.ftp_client_model.specs.Calls.{control_end, report_of}
use Rattle.ftp_operation.specs.Answer.{Said}
use Rattle.ftp_operation.specs.declared.op.Op.{Op}
use Rattle.ftp_path.specs.Path.{Names}
use Rattle.ftp_server_driver.specs.alone.Driving.{Drove}
use Rattle.ftp_server_driver.specs.alone.Side.{server_side}
use Rattle.ftp_server_driver.specs.shared.Lending.{Holding, tree_of, with_tree_at}
use Rattle.ftp_server_driver.specs.shared.Turning.{AllGoOn, AreTurns, Turn}
use Rattle.ftp_tree.specs.Sound.{last_second}
use Rattle.laws_world.specs.Agreement.{Agrees, Order}
use Rattle.laws_world.specs.Claims.{AreAnswers, AreUnmarked, Beginning, IsFair, state_of}
use Rattle.laws_world.specs.World.{Mark}
use Rattle.laws_drivers.specs.control.Alone.{begun_in, reports_in}
use Rattle.laws_drivers.specs.control.Between.{Between, Turn as Action, client_actions, server_actions}
use Rattle.laws_drivers.specs.control.Claims.{Did}
use Rattle.laws_drivers.specs.control.Over.{AreOver as AreOverAlone, orders_at_moment}
use Rattle.laws_drivers.specs.events.Answers.{actions_of_server, answers_of, orders_at}
use Rattle.laws_drivers.specs.control.Quitting.{HaveQuit}
use Rattle.laws_drivers.specs.events.Actions.{Along}
use Rattle.laws_transfers.specs.Claims.{DidTransfer}
use Rattle.laws_drivers.specs.events.Moments.{AreMoments, begun_at}
use Rattle.laws_transfers.specs.Over.{AreOver as AreOverTransferring}
use Rattle.laws_transfers.specs.Quitting.{QuitAfterAll as HaveQuitTransferring}
use Rattle.laws_sessions.specs.served.Alone.{FindWhatWasLeft, IsOwnDrive, server_actions_in, lent_first, part_at, whole_holding}
use Rattle.laws_sessions.specs.served.Rooted.{IsOwnDriveBut, StaysAt, TurnsStayAt}

module _ {X : Type 0} (part : Holding → X) where
  -- These actions of a server's drive, from here to there, are those of all turns of a session so far, each of which found this of the tree as the one before it
  -- left it. It began with the tree that the first of them was lent, and is left with this as the last one gave it back
  pub record IsServed (turn : Turn) (before : List Turn) (from there : Stand server_side) (actions : List (ActionOf server_side)) : Type 0 where
    pub start : Stand server_side
    pub now : Stand server_side
    pub on : AllGoOn before
    pub found : FindWhatWasLeft part (turn ∷ before)
    pub are : AreTurns (turn ∷ before) start now
    pub actions_are : actions ≡ server_actions_in (turn ∷ before) start now are
    pub from_is : from ≡ with_tree_at (lent_first turn before) start
    pub leaves : part (tree_of there.owner.end) ≡ part turn.left

  -- ---- after a turn

  -- reports agree with what was begun and with a map, of which this is as the last turn gave it back; where the control connection ends for both then, an
  -- operation that has no report is lost
  abbrev pub AgreesWith : Beginning → List Order → (cutoff : List (List Mark) → Option ℕ) → List Said → Turn → Type 0
  AgreesWith b begun cutoff reports turn =
      (tree : Holding) × (part tree ≡ part turn.left)
      × ((marks : List (List Mark)) × AreUnmarked marks × Agrees (state_of b) begun marks (cutoff marks) reports tree.table)

  -- so it is of the actions of both that were done so far, in this order, which began these operations
  pub record AgreesAfter (b : Beginning) (begun : List Order) (order : List Action) (client : Stand client_side) (turn : Turn) : Type 0 where
    pub standing : AgreesWith b begun (λ marks. None)
        (reports_in (client_actions order) ++ option_to_list (report_of client.owner.end.view)) turn
    pub parting : AgreesWith b begun (λ marks. Some (length marks))
        (reports_in (client_actions order) ++ option_to_list (report_of (control_end client.owner.end.view))) turn

  -- of drives that put and fetch files and listings, after each turn
  abbrev pub TransfersAgree : Type 0
  TransfersAgree =
      (b : Beginning) → IsFair b → (moments : ℕ → ℕ) → AreMoments moments → (order : List Action) (between : Between) (turn : Turn) (before : List Turn)
      (there : Stand server_side) (client : Stand client_side) (did : DidTransfer b moments order between there client)
      → IsServed turn before did.server_start there (server_actions order) → AgreesAfter b (begun_at moments (client_actions order)) order client turn

  -- of drives that need no data connection
  abbrev pub AloneAgree : Type 0
  AloneAgree =
      (b : Beginning) → IsFair b → (moment : ℕ) → moment ≤ last_second → (order : List Action) (between : Between) (turn : Turn) (before : List Turn)
      (there : Stand server_side) (client : Stand client_side) (did : Did b order between there client)
      → IsServed turn before did.server_start there (server_actions order) → AgreesAfter b (begun_in moment (client_actions order)) order client turn

  -- ---- where it is over

  -- the answers that a client's drives gave are those of the operations run directly, which leave a map of which this is as the last turn gave it back
  abbrev pub AreDirect : Beginning → List Order → List (Op (List ℕ) × Said) → Turn → Type 0
  AreDirect b orders asked turn = (tree : Holding) × (part tree ≡ part turn.left) × AreAnswers (state_of b) orders (answers_of asked) tree.table

  -- so it is where it put and fetched files and listings, and the client left
  abbrev pub TransfersAreDirect : Type 0
  TransfersAreDirect =
      (b : Beginning) → IsFair b → (moments : ℕ → ℕ) → AreMoments moments → (asked : List (Op (List ℕ) × Said)) (turn : Turn) (before : List Turn)
      (there : Stand server_side) (over : AreOverTransferring b moments asked there)
      → IsServed turn before over.server_start there (actions_of_server over.drove) → AreDirect b (orders_at moments asked) asked turn

  -- or QUIT was heard
  abbrev pub TransfersThatQuitAreDirect : Type 0
  TransfersThatQuitAreDirect =
      (b : Beginning) → IsFair b → (moments : ℕ → ℕ) → AreMoments moments → (asked : List (Op (List ℕ) × Said)) (turn : Turn) (before : List Turn)
      (there : Stand server_side) (over : HaveQuitTransferring b moments asked there)
      → IsServed turn before over.server_start there (actions_of_server over.drove) → AreDirect b (orders_at moments asked) asked turn

  -- where no data connection was wanted, and the client left
  abbrev pub AloneAreDirect : Type 0
  AloneAreDirect =
      (b : Beginning) → IsFair b → (moment : ℕ) → moment ≤ last_second → (asked : List (Op (List ℕ) × Said)) (turn : Turn) (before : List Turn)
      (there : Stand server_side) (over : AreOverAlone b asked there) → IsServed turn before over.server_start there (actions_of_server over.drove)
      → AreDirect b (orders_at_moment moment asked) asked turn

  -- or QUIT was heard
  abbrev pub ThatQuitAreDirect : Type 0
  ThatQuitAreDirect =
      (b : Beginning) → IsFair b → (moment : ℕ) → moment ≤ last_second → (asked : List (Op (List ℕ) × Said)) (turn : Turn) (before : List Turn)
      (there : Stand server_side) (over : HaveQuit b asked there) → IsServed turn before over.server_start there (actions_of_server over.drove)
      → AreDirect b (orders_at_moment moment asked) asked turn

-- ---- of all of the tree, or of what stands at and below a root

-- all of these
pub record Agree {X : Type 0} (part : Holding → X) : Type 0 where
  pub transferring : TransfersAgree part
  pub alone : AloneAgree part

pub record Direct {X : Type 0} (part : Holding → X) : Type 0 where
  pub transferring : TransfersAreDirect part
  pub transferring_quit : TransfersThatQuitAreDirect part
  pub alone : AloneAreDirect part
  pub quit : ThatQuitAreDirect part

abbrev pub ServedAgree : Type 0
ServedAgree = Agree whole_holding × ((root : Names) → Agree (part_at root))

abbrev pub ServedAreDirect : Type 0
ServedAreDirect = Direct whole_holding × ((root : Names) → Direct (part_at root))

-- ---- there are such sessions

-- the one drive that turns are is served so; of a session with a root, of what stands there
pub record TurnsAreServed : Type 0 where
  pub all : (turn : Turn) (before : List Turn) (start now : Stand server_side) → AllGoOn before → FindWhatWasLeft whole_holding (turn ∷ before)
      → (are : AreTurns (turn ∷ before) start now) → IsOwnDrive turn before start now are
      → IsServed whole_holding turn before (with_tree_at (lent_first turn before) start) are.2.mid (server_actions_in (turn ∷ before) start now are)
  pub rooted : (root : Names) (turn : Turn) (before : List Turn) (start now : Stand server_side) → AllGoOn before
      → FindWhatWasLeft (part_at root) (turn ∷ before) → (are : AreTurns (turn ∷ before) start now) → (own : IsOwnDriveBut root turn before start now are)
      → IsServed (part_at root) turn before (with_tree_at (lent_first turn before) start) own.left (server_actions_in (turn ∷ before) start now are)

-- every drive of a server of its own that is over is that of turns of a session, one for each of its actions, whichever tree that has between them; and where its
-- actions stay at a root, so do those of the turns
pub record IsCutUp (own : Holding) (from there : Stand server_side) (drove : Drove from there) : Type 0 where
  pub turn : Turn
  pub before : List Turn
  pub served : IsServed whole_holding turn before from there (actions_of_server drove)
  pub over : turn.went ≡ Ok (Turns.Over tt)
  pub between : tree_of served.start.owner.end ≡ own
  pub many : length before ≡ length drove.did.actions
  pub found : (root : Names) → FindWhatWasLeft (part_at root) (turn ∷ before)
  pub stays : (root : Names) → Along (StaysAt root) (actions_of_server drove) from there drove.did.sums.led
      → TurnsStayAt root (turn ∷ before) served.start served.now served.are

abbrev pub DrivesAreCutUp : Type 0
DrivesAreCutUp = (own : Holding) (from there : Stand server_side) (drove : Drove from there) → IsCutUp own from there drove
