-- Sessions in which both ends took turns: operations, each begun after the answer of the one before, and all actions of both.
use Rattle.std.specs.Prelude.{◌≡◌, ℕ, List, [], ◌∷◌, ◌++◌}
use Rattle.ftp_ports.specs.Actions.{Action, Other}
use Rattle.ftp_client_driver.specs.Side.{Begun, client_side}
use Rattle.ftp_operation.specs.Answer.{Said}
use Rattle.ftp_operation.specs.declared.op.Op.{Op}
use Rattle.laws_drivers.specs.control.Between.{Client, Turn}
use Rattle.ftp_pair_memory.specs.steps.Taking.{Answered, Answers, Ends, by_client, last_actions}

-- operations and their answers, the last one first, each begun after the answer of the one before
abbrev pub AreAsked : List (Op (List ℕ) × Said) → (start now : Ends) → Type 0
AreAsked [] start now = now ≡ start
AreAsked (asked ∷ before) start now = (mid : Ends) × AreAsked before start mid × Answered asked.0 asked.1 mid now

-- the actions that the client did alone before its drive was over
abbrev pub actions_of : {answer : Said} {old new : Ends} → Answers answer old new → List (Action client_side)
actions_of {answer = answer} answers = last_actions answers.asked answer answers.midst

-- all actions of both, the last one first
abbrev pub turns_of_both : (asked : List (Op (List ℕ) × Said)) (start now : Ends) → AreAsked asked start now → List Turn
turns_of_both [] start now are = []
turns_of_both (asked ∷ before) start now are =
    by_client (actions_of are.2.settled.answers) ++ (are.2.settled.took.turns ++ (Client (Other (Begun asked.0)) ∷ turns_of_both before start are.0 are.1))
