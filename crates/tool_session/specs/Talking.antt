-- What was asked and answered over a control connection, one after another.
use Rattle.std.specs.Prelude.{◌≡◌, ◌⊎◌, Bool, true, false, List, [], ◌∷◌, IsErr, Result}
use Rattle.std.specs.Global.{Global}
use Rattle.ftp_operation.specs.declared.answer.Answer.{Answer}
use Rattle.tool_session.specs.declared.request.Request.{Request}

-- a request and its answer
abbrev pub SessionExchange : Type 0
SessionExchange = Request × Answer Global

-- these exchanges, one after another, lead from one session to the other
abbrev pub HasExchanged : {S : Type 0} → (Request → Answer Global → S → S → Type 0) → S → List SessionExchange → S → Type 0
HasExchanged answers old [] new = new ≡ old
HasExchanged {S} answers old (one ∷ more) new = (next : S) × answers one.0 one.1 old next × HasExchanged answers next more new

-- a task was played to this result, and had such exchanges; of a task that does not tell them nothing is said
abbrev pub Played : {P T : Type 0} → (tells : Bool) → (List SessionExchange → Type 0) → (List SessionExchange → T → P → P → Type 0) → P → P → T → Type 0
Played false had plays old new result = Unit {0}
Played true had plays old new result = (heard : List SessionExchange) × had heard × plays heard result old new

-- a task was played so over a control connection; or there was none, and nothing was asked
abbrev pub Conversed : {P T F : Type 0} → (tells : Bool) → (List SessionExchange → Type 0) → (List SessionExchange → Result T F → P → P → Type 0) → P → P
    → Result T F → Type 0
Conversed false had plays old new result = Unit {0}
Conversed true had plays old new result = Played true had plays old new result ⊎ ((new ≡ old) × IsErr result)
