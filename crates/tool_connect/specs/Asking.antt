-- What is asked over one control connection after another, until there is an answer (own choice: RFC 959, section 3.5, leaves recovery to the user).
use Rattle.std.specs.Prelude.{◌≡◌, ◌⊎◌, Bool, true, false, List, [], ◌∷◌, IsErr, Result, Ok}
use Rattle.std.specs.Global.{Global}
use Rattle.ftp_operation.specs.declared.answer.Answer.{Answer}
use Rattle.ftp_operation.specs.declared.answer.Answer.TheVariants as Answers
use Rattle.tool_session.specs.Talking.{SessionExchange}

-- a task was played over control connections, one after another: what was heard over each, and so it came from one state to the other
abbrev pub Replayed : {P T : Type 0} → (List SessionExchange → Type 0) → (List SessionExchange → T → P → P → Type 0) → P → List (List SessionExchange) → P
    → Type 0
Replayed hears plays old [] new = new ≡ old
Replayed {P} {T} hears plays old (heard ∷ more) new =
    (mid : P) × (result : T) × hears heard × plays heard result old mid × Replayed hears plays mid more new

-- the server did not answer
abbrev pub IsUnanswered : {F : Type 0} → Result (Answer Global) F → Type 0
IsUnanswered result = (result ≡ Ok Answers.Lost) ⊎ IsErr result

-- A task was played over some control connections without an answer, and then once more to this result; or there is no answer. Of a task that does not tell
-- its exchanges nothing is said.
abbrev pub AskedUntil : {P F : Type 0} → (tells : Bool) → (List SessionExchange → Type 0)
    → (List SessionExchange → Result (Answer Global) F → P → P → Type 0) → P → P → Result (Answer Global) F → Type 0
AskedUntil false hears plays old new result = Unit {0}
AskedUntil {P} true hears plays old new result = (before : List (List SessionExchange)) × (mid : P) × Replayed hears plays old before mid
    × ((IsUnanswered result × (new ≡ mid)) ⊎ ((heard : List SessionExchange) × hears heard × plays heard result mid new))
