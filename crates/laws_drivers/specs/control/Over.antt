-- Drives that are over, over control alone: what the contracts of one server's drive and of a client's drives tell, each after the operation
-- that it answers, put together.
use Rattle.std.specs.Prelude.{◌≡◌, ⊤, ℕ, ◌≤◌, List, [], ◌∷◌, ◌++◌, length, Some, None}
use Rattle.ftp_ports.specs.Asking.{Shut}
use Rattle.ftp_ports.specs.Actions.{Action, Ended, Heard, Led, Other, Read, Said as Says, Stand}
use Rattle.ftp_ports.specs.Machine.{Aside, Left}
use Rattle.ftp_client_driver.specs.Side.{Begun, Reporting, client_side}
use Rattle.ftp_operation.specs.Answer.{Said}
use Rattle.ftp_operation.specs.declared.op.Op.{Op}
use Rattle.laws_drivers.specs.control.Alone.{AsksAlone, ClientAttends, ClientIsCalm, ServesAlone}
use Rattle.laws_drivers.specs.control.Between.{Between, Happened, Turn, client_actions, server_actions}
use Rattle.laws_drivers.specs.control.Claims.{Begins}
use Rattle.laws_drivers.specs.events.Answers as all
use Rattle.laws_drivers.specs.events.Answers.{Answers, actions_of_drive, actions_of_server, answers_of, orders_at}
use Rattle.laws_world.specs.Agreement.{Agrees, Order}
use Rattle.laws_world.specs.Claims.{AreAnswers, AreUnmarked, Beginning, IsFair, state_of}
use Rattle.laws_world.specs.World.{Mark}
use Rattle.ftp_server_driver.specs.alone.Driving.{Drove as ServerDrove}
use Rattle.ftp_server_driver.specs.alone.Side.{server_side}
use Rattle.ftp_tree.specs.Sound.{last_second}

-- ---- the client

-- none is begun in it, and none reported
abbrev pub IsMidst : Action client_side → Type 0
IsMidst (Heard octets) = ⊤
IsMidst (Says octets) = ⊤
IsMidst (Read octets) = ⊤
IsMidst (Other (Aside (Reporting None))) = ⊤
IsMidst action = ⊥

abbrev pub AreMidst : List (Action client_side) → Type 0
AreMidst [] = ⊤
AreMidst (action ∷ before) = AreMidst before × IsMidst action

-- it did so over control alone, and before it reported nothing was reported, and no other operation begun
pub record AnswersAlone {op : Op (List ℕ)} {answer : Said} {old new : Stand client_side} (a : Answers op answer old new) : Type 0 where
  pub calm : ClientIsCalm old.owner a.begun.owner
  pub asks : AsksAlone (actions_of_drive a.drove) a.begun new a.drove.did.sums.led
  pub midst : AreMidst a.drove.did.actions

-- operations and their answers, the last one first, of a client that attends first
abbrev pub IsAnswerAlone : (op : Op (List ℕ)) (answer : Said) (old new : Stand client_side) → Answers op answer old new → Type 0
IsAnswerAlone op answer old new a = AnswersAlone a

abbrev pub AreAnswered : List (Op (List ℕ) × Said) → (start now : Stand client_side) → Type 0
AreAnswered asked start now = ClientAttends start.owner × all.AreAnswered IsAnswerAlone asked start now

abbrev pub actions_in : (asked : List (Op (List ℕ) × Said)) (start now : Stand client_side) → AreAnswered asked start now → List (Action client_side)
actions_in asked start now answered = all.actions_in IsAnswerAlone asked start now answered.1

-- in order, each at this moment
abbrev pub orders_at_moment : (moment : ℕ) → List (Op (List ℕ) × Said) → List Order
orders_at_moment moment asked = orders_at (λ n. moment) asked

-- ---- the server

-- it served control alone until it was told that the control connection ended; then its drive was over, and none stood to be closed
abbrev pub ServedToItsEnd : (actions : List (Action server_side)) (start now : Stand server_side) → Led actions start now → Type 0
ServedToItsEnd (Other (Left Shut) ∷ Ended ∷ before) start now led = ServesAlone before start led.1.0 led.1.1
ServedToItsEnd actions start now led = ⊥

-- ---- both

-- the contracts of the drives, and an order of their actions in which each can happen
pub record AreOver (b : Beginning) (asked : List (Op (List ℕ) × Said)) (server : Stand server_side) : Type 0 where
  pub server_start : Stand server_side
  pub client_start : Stand client_side
  pub client : Stand client_side
  pub begins : Begins b server_start client_start
  pub drove : ServerDrove server_start server
  pub served : ServedToItsEnd (actions_of_server drove) server_start server drove.did.sums.led
  pub answered : AreAnswered asked client_start client
  pub turns : List Turn
  pub between : Between
  pub happened : Happened turns between
  pub server_is : server_actions turns ≡ actions_of_server drove
  pub client_is : client_actions turns ≡ actions_in asked client_start client answered

-- the last drive of the client was told in its midst that the control connection ended; then it gave its report, and none stood to be closed
abbrev pub AskedToItsEnd : (actions : List (Action client_side)) (start now : Stand client_side) → Led actions start now → Type 0
AskedToItsEnd (Ended ∷ before) start now led = AsksAlone before start led.0 led.1 × AreMidst before
AskedToItsEnd actions start now led = ⊥

pub record LosesAlone {op : Op (List ℕ)} {answer : Said} {old new : Stand client_side} (a : Answers op answer old new) : Type 0 where
  pub calm : ClientIsCalm old.owner a.begun.owner
  pub asks : AskedToItsEnd a.drove.did.actions a.begun a.drove.did.sums.led.1.1.0 a.drove.did.sums.led.1.1.1
  pub shut : a.drove.asked ≡ Shut

-- the same of drives of which both were told so, after operations that were answered
pub record AreLost (b : Beginning) (asked : List (Op (List ℕ) × Said)) (op : Op (List ℕ)) (answer : Said) (server : Stand server_side) : Type 0 where
  pub server_start : Stand server_side
  pub client_start : Stand client_side
  pub mid : Stand client_side
  pub client : Stand client_side
  pub begins : Begins b server_start client_start
  pub drove : ServerDrove server_start server
  pub served : ServedToItsEnd (actions_of_server drove) server_start server drove.did.sums.led
  pub answered : AreAnswered asked client_start mid
  pub last : Answers op answer mid client
  pub loses : LosesAlone last
  pub turns : List Turn
  pub between : Between
  pub happened : Happened turns between
  pub server_is : server_actions turns ≡ actions_of_server drove
  pub client_is : client_actions turns ≡ actions_of_drive last.drove ++ (Other (Begun op) ∷ actions_in asked client_start mid answered)

-- they agree with all operations, the last of which may be lost, and then done or not
abbrev pub DrivesLostAgree : Type 0
DrivesLostAgree =
    (b : Beginning) → IsFair b → (moment : ℕ) → moment ≤ last_second
    → (asked : List (Op (List ℕ) × Said)) (op : Op (List ℕ)) (answer : Said) (server : Stand server_side)
    → AreLost b asked op answer server → (marks : List (List Mark)) × AreUnmarked marks
    × Agrees (state_of b) (orders_at_moment moment ((op, answer) ∷ asked)) marks (Some (length marks)) (answers_of ((op, answer) ∷ asked))
    server.owner.end.server.view.session.table

-- the answers that a client's drives gave, and the map that the server's drive left, are those of the operations run directly
abbrev pub DrivesOverAreTheDirectRun : Type 0
DrivesOverAreTheDirectRun =
    (b : Beginning) → IsFair b → (moment : ℕ) → moment ≤ last_second → (asked : List (Op (List ℕ) × Said)) (server : Stand server_side)
    → AreOver b asked server → AreAnswers (state_of b) (orders_at_moment moment asked) (answers_of asked) server.owner.end.server.view.session.table
