-- What the drives of a client tell, each after the operation that it answers, put together, and what a server's drive tells that is over.
use Rattle.std.specs.Prelude.{◌≡◌, ℕ, List, [], ◌∷◌, ◌++◌, length, Option, Some}
use Rattle.ftp_ports.specs.Actions.{Action, Done, Other, Stand}
use Rattle.ftp_ports.specs.Machine.{Closed, Held, Left}
use Rattle.ftp_client_driver.specs.Driving.{ClientDrove}
use Rattle.ftp_client_driver.specs.Side.{Begun, Report, client_side}
use Rattle.ftp_client_model.specs.Failing.{Client}
use Rattle.ftp_operation.specs.Answer.{Said}
use Rattle.ftp_operation.specs.declared.op.Op.{Op}
use Rattle.ftp_server_driver.specs.alone.Driving.{Drove as ServerDrove}
use Rattle.ftp_server_driver.specs.alone.Side.{server_side}
use Rattle.laws_drivers.specs.control.Alone.{ClientIsCalm}
use Rattle.laws_drivers.specs.events.Actions.{Along, AreMidst}
use Rattle.laws_world.specs.Agreement.{Order, Single}

-- ---- the client

-- an operation was begun, and a drive gave its answer
pub record Answers (op : Op (List ℕ)) (answer : Said) (old new : Stand client_side) : Type 0 where
  pub begun : Stand client_side
  pub begins : Done (Other (Begun op)) old begun
  pub drove : ClientDrove begun new (Some answer)

-- all actions of a drive, the last one first: after the rest it reports, and its port is shut
abbrev pub actions_of_drive : {start now : Stand client_side} {said : Option Said} → ClientDrove start now said → List (Action client_side)
actions_of_drive {said = said} drove = (Other Closed ∷ Other (Left drove.asked) ∷ Other (Report said) ∷ []) ++ drove.did.actions

-- such an operation was answered by such actions, and before the drive reported nothing was reported, and no other operation begun
module _ (Carries : Op (List ℕ) → Type 0) (Asks : Action client_side → (old new : Held Client) → Type 0) where
  pub record AnswersBy {op : Op (List ℕ)} {answer : Said} {old new : Stand client_side} (a : Answers op answer old new) : Type 0 where
    pub raised : Carries op
    pub calm : ClientIsCalm old.owner a.begun.owner
    pub asks : Along Asks (actions_of_drive a.drove) a.begun new a.drove.did.sums.led
    pub midst : AreMidst a.drove.did.actions

  abbrev pub IsAnswerBy : (op : Op (List ℕ)) (answer : Said) (old new : Stand client_side) → Answers op answer old new → Type 0
  IsAnswerBy op answer old new a = AnswersBy a

-- operations and their answers, the last one first, of which each is such
module _ (Is : (op : Op (List ℕ)) (answer : Said) (old new : Stand client_side) → Answers op answer old new → Type 0) where
  abbrev pub AreAnswered : List (Op (List ℕ) × Said) → (start now : Stand client_side) → Type 0
  AreAnswered [] start now = now ≡ start
  AreAnswered (asked ∷ before) start now =
      (mid : Stand client_side) × AreAnswered before start mid × (a : Answers asked.0 asked.1 mid now) × Is asked.0 asked.1 mid now a

  -- all actions
  abbrev pub actions_in : (asked : List (Op (List ℕ) × Said)) (start now : Stand client_side) → AreAnswered asked start now → List (Action client_side)
  actions_in [] start now answered = []
  actions_in (asked ∷ before) start now answered =
      actions_of_drive answered.2.drove ++ (Other (Begun asked.0) ∷ actions_in before start answered.0 answered.1)

-- in order, the n-th, from 0, at the n-th of these moments
abbrev pub orders_at : (moments : ℕ → ℕ) → List (Op (List ℕ) × Said) → List Order
orders_at moments [] = []
orders_at moments (asked ∷ before) = orders_at moments before ++ Single asked.0 (moments (length before)) ∷ []

abbrev pub answers_of : List (Op (List ℕ) × Said) → List Said
answers_of [] = []
answers_of (asked ∷ before) = answers_of before ++ asked.1 ∷ []

-- ---- the server

abbrev pub actions_of_server : {start now : Stand server_side} → ServerDrove start now → List (Action server_side)
actions_of_server drove = Other (Left drove.asked) ∷ drove.did.actions
