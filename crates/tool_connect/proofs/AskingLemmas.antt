-- A task that is played over one control connection after another.
use Rattle.std.proofs.Common.{◌≡◌, Bool, true, false, List, [], ◌∷◌, ◌++◌, Result, Ok, IsErr, subst, inl, inr, refl, sym}
use Rattle.std.specs.Global.{Global}
use Rattle.ftp_operation.specs.declared.answer.Answer.{Answer}
use Rattle.ftp_operation.specs.declared.answer.Answer.TheVariants as Answers
use Rattle.tool_session.specs.Talking.{Conversed, SessionExchange}
use Rattle.tool_connect.specs.Asking.{AskedUntil, IsUnanswered, Replayed}

-- Nothing was asked.
pub not_asked : {P F : Type 0} (tells : Bool) (hears : List SessionExchange → Type 0) (plays : List SessionExchange → Result (Answer Global) F → P → P → Type 0)
    (old : P) → AskedUntil tells hears plays old old (Ok Answers.Lost)
not_asked false hears plays old = tt
not_asked true hears plays old = ([], old, refl, inl (inl refl, refl))

-- One control connection more is behind those before.
replayed_more : {P T : Type 0} (hears : List SessionExchange → Type 0) (plays : List SessionExchange → T → P → P → Type 0) (old mid new : P)
    (before : List (List SessionExchange)) (heard : List SessionExchange) (result : T)
    → Replayed hears plays old before mid → hears heard → plays heard result mid new → Replayed hears plays old (before ++ heard ∷ []) new
replayed_more hears plays old mid new [] heard result same had played =
    (new, result, had, subst (λ at. plays heard result at new) same played, refl)
replayed_more hears plays old mid new (one ∷ before) heard result led had played =
    (led.0, led.1, led.2, led.3, replayed_more hears plays led.0 mid new before heard result led.4 had played)

-- What was asked was asked over control connections.
replayed_of : {P F : Type 0} (hears : List SessionExchange → Type 0) (plays : List SessionExchange → Result (Answer Global) F → P → P → Type 0) (old new : P)
    (result : Result (Answer Global) F) → AskedUntil true hears plays old new result
    → (before : List (List SessionExchange)) × Replayed hears plays old before new
replayed_of hears plays old new result (before, mid, led, inl none) =
    (before, subst (λ at. Replayed hears plays old before at) (sym none.1) led)
replayed_of hears plays old new result (before, mid, led, inr played) =
    (before ++ played.0 ∷ [], replayed_more hears plays old mid new before played.0 result led played.1 played.2)

-- What was asked without an answer is asked once more.
pub asked_more : {P F : Type 0} (tells : Bool) (hears : List SessionExchange → Type 0)
    (plays : List SessionExchange → Result (Answer Global) F → P → P → Type 0) (old mid new : P) (said result : Result (Answer Global) F)
    → AskedUntil tells hears plays old mid said → Conversed tells hears plays mid new result → AskedUntil tells hears plays old new result
asked_more false hears plays old mid new said result asked conversed = tt
asked_more true hears plays old mid new said result asked (inl played) =
    let led = replayed_of hears plays old mid said asked in (led.0, mid, led.1, inr played)
asked_more true hears plays old mid new said result asked (inr none) =
    let led = replayed_of hears plays old mid said asked in (led.0, mid, led.1, inl (inr none.1, none.0))

-- What was asked is given up.
pub given_up : {P F : Type 0} (tells : Bool) (hears : List SessionExchange → Type 0)
    (plays : List SessionExchange → Result (Answer Global) F → P → P → Type 0) (old new : P) (said : Result (Answer Global) F)
    → AskedUntil tells hears plays old new said → AskedUntil tells hears plays old new (Ok Answers.Lost)
given_up false hears plays old new said asked = tt
given_up true hears plays old new said asked =
    let led = replayed_of hears plays old new said asked in (led.0, new, led.1, inl (inl refl, refl))

-- What was asked over some control connections and then over others was asked over all of them.
asked_behind : {P F : Type 0} (hears : List SessionExchange → Type 0) (plays : List SessionExchange → Result (Answer Global) F → P → P → Type 0)
    (old mid new : P) (before : List (List SessionExchange)) (result : Result (Answer Global) F)
    → Replayed hears plays old before mid → AskedUntil true hears plays mid new result → AskedUntil true hears plays old new result
asked_behind hears plays old mid new [] result same asked = subst (λ at. AskedUntil true hears plays at new result) same asked
asked_behind hears plays old mid new (heard ∷ before) result led asked =
    let rest = asked_behind hears plays led.0 mid new before result led.4 asked in
    (heard ∷ rest.0, rest.1, (led.0, led.1, led.2, led.3, rest.2), rest.3)

-- The same behind a first control connection.
pub asked_again : {P F : Type 0} (tells : Bool) (hears : List SessionExchange → Type 0)
    (plays : List SessionExchange → Result (Answer Global) F → P → P → Type 0) (old mid new : P) (said result : Result (Answer Global) F)
    → AskedUntil tells hears plays old mid said → AskedUntil tells hears plays mid new result → AskedUntil tells hears plays old new result
asked_again false hears plays old mid new said result first asked = tt
asked_again true hears plays old mid new said result first asked =
    let led = replayed_of hears plays old mid said first in asked_behind hears plays old mid new led.0 result led.1 asked
