-- A task over a control connection: what it asked and was answered.
use Rattle.std.proofs.Common.{◌<◌, ℕ, Bool, true, false, List, [], ◌∷◌, Result, IsErr, ap, inl, inr, refl, arith}
use Rattle.std.specs.Global.{Global}
use Rattle.std.specs.Prelude.{⊤}
use Rattle.ftp_operation.specs.declared.answer.Answer.{Answer}
use Rattle.ftp_ports.specs.Actions.{Stand}
use Rattle.ftp_client_driver.specs.Side.{client_side}
use Rattle.tool_session.specs.Talking.{Conversed, SessionExchange, HasExchanged, Played}
use Rattle.tool_session.specs.declared.request.Request.{Request}
use Rattle.tool_connect.specs.Answering.{AnswersBetween, CanHear, ComesOfClient}

-- Where no control connection was had, a task stays, and an error tells it.
pub unconversed : {P T F : Type 0} (tells : Bool) (had : List SessionExchange → Type 0) (plays : List SessionExchange → Result T F → P → P → Type 0)
    (play : P) (result : Result T F) → IsErr result → Conversed tells had plays play play result
unconversed false had plays play result fails = tt
unconversed true had plays play result fails = inr (refl, fails)

-- A task that was played conversed.
pub conversed : {P T F : Type 0} (tells : Bool) (had also : List SessionExchange → Type 0) (plays : List SessionExchange → Result T F → P → P → Type 0)
    (old new : P) (result : Result T F) → ((heard : List SessionExchange) → had heard → also heard) → Played tells had plays old new result
    → Conversed tells also plays old new result
conversed false had also plays old new result weaker played = tt
conversed true had also plays old new result weaker played = inl (played.0, weaker played.0 played.1, played.2)

-- A task that conversed so conversed as anything says that is weaker.
pub conversed_weaker : {P T F : Type 0} (tells : Bool) (had also : List SessionExchange → Type 0) (plays : List SessionExchange → Result T F → P → P → Type 0)
    (old new : P) (result : Result T F) → ((heard : List SessionExchange) → had heard → also heard) → Conversed tells had plays old new result
    → Conversed tells also plays old new result
conversed_weaker false had also plays old new result weaker so = tt
conversed_weaker true had also plays old new result weaker (inl played) = inl (played.0, weaker played.0 played.1, played.2)
conversed_weaker true had also plays old new result weaker (inr unplayed) = inr unplayed

-- Exchanges between sessions are exchanges between their stands, where each leaves no data connection to the next.
pub stands_exchanged : {X : Type 0} (answers : Request → Answer Global → X → X → Type 0) (none : X → Type 0) (stand : X → Stand client_side)
    → ((request : Request) (answer : Answer Global) (old new : X) → answers request answer old new
    → (none old → AnswersBetween request answer (stand old) (stand new)) × none new)
    → (old : X) (heard : List SessionExchange) (new : X) → none old → HasExchanged answers old heard new
    → HasExchanged AnswersBetween (stand old) heard (stand new)
stands_exchanged answers none stand each old [] new begins same = ap stand same
stands_exchanged answers none stand each old (one ∷ heard) new begins does =
    let step = each one.0 one.1 old does.0 does.1 in
    (stand does.0, step.0 begins, stands_exchanged answers none stand each does.0 heard new step.1 does.2)

-- A task that was played by one client, and began where no data connection stood, conversed between what a client can hear.
pub conversed_by : {X P T F : Type 0} (answers : Request → Answer Global → X → X → Type 0) (first last : X) (tells : Bool)
    (plays : List SessionExchange → Result T F → P → P → Type 0) (old new : P) (result : Result T F)
    → Played tells (λ heard. HasExchanged answers first heard last) plays old new result
    → (none : X → Type 0) (stand : X → Stand client_side)
    → ((request : Request) (answer : Answer Global) (old new : X) → answers request answer old new
    → (none old → AnswersBetween request answer (stand old) (stand new)) × none new)
    → none first → Conversed tells ComesOfClient plays old new result
conversed_by answers first last tells plays old new result played none stand each begins =
    conversed tells (λ heard. HasExchanged answers first heard last) ComesOfClient plays old new result
    (λ heard had. (stand first, stand last, stands_exchanged answers none stand each first heard last begins had)) played

-- What one client hears can be heard.
pub heard_of_one : {P T F : Type 0} (at_once : ℕ) (tells : Bool) (plays : List SessionExchange → Result T F → P → P → Type 0) (old new : P)
    (result : Result T F) → Conversed tells ComesOfClient plays old new result → Conversed tells (CanHear at_once) plays old new result
heard_of_one at_once tells plays old new result = conversed_weaker tells ComesOfClient (CanHear at_once) plays old new result (λ heard comes alone. comes)

-- Over several control connections anything can be heard.
pub heard_of_several : {P T F : Type 0} (at_once : ℕ) (tells : Bool) (plays : List SessionExchange → Result T F → P → P → Type 0) (old new : P)
    (result : Result T F) → 1 < at_once → Conversed tells (λ heard. ⊤) plays old new result → Conversed tells (CanHear at_once) plays old new result
heard_of_several at_once tells plays old new result several =
    conversed_weaker tells (λ heard. ⊤) (CanHear at_once) plays old new result (λ heard any alone. absurd (omega (arith, several, alone)))
