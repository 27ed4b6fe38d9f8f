-- What was asked and answered over a control connection, and what a status of what is done says of it.
use Rattle.std.proofs.Common.{◌≡◌, ℕ, List, [], ◌∷◌, ◌++◌, Bool, true, false, refl, sym, ap, ◌∙◌, subst, inl, inr, IfOk, IsErr, Result, Ok, Err, true≢false, arith}
use Rattle.std.specs.Global.{Global}
use Rattle.ftp_operation.specs.declared.answer.Answer.{Answer}
use Rattle.ftp_operation.specs.declared.answer.Answer.TheVariants as Answers
use Rattle.tool_session.specs.Talking.{Conversed, HasExchanged, SessionExchange}
use Rattle.tool_session.specs.declared.request.Request.{Request}
use Rattle.tool_terminal.specs.declared.status.Status.{Status}
use Rattle.tool_terminal.specs.declared.status.Status.TheVariants as Statuses
use Rattle.tool_job.specs.single.Parents.{EndsAt, IsOfDirectory, is_made, is_refused}
use Rattle.tool_job.specs.single.Simple.{IsAnswered, IsAskedOnce, reported_status}

-- Exchanges and then others are all of them, one after another.
pub exchanged_then : {S : Type 0} (answers : Request → Answer Global → S → S → Type 0) (old mid new : S) (heard more : List SessionExchange)
    → HasExchanged answers old heard mid → HasExchanged answers mid more new → HasExchanged answers old (heard ++ more) new
exchanged_then answers old mid new [] more same behind = subst (λ at. HasExchanged answers at more new) same behind
exchanged_then answers old mid new (one ∷ heard) more before behind =
    (before.0, before.1, exchanged_then answers before.0 mid new heard more before.2 behind)

-- The answer of a task that was played comes of what it says.
pub played : {P F : Type 0} (hears : List SessionExchange → Type 0) (comes : P → List SessionExchange → Answer Global → Type 0) (old new : P)
    (said : Result (Answer Global) F) (answer : Answer Global)
    → Conversed true hears (λ heard result before after. IfOk result (comes before heard)) old new said → said ≡ Ok answer
    → (heard : List SessionExchange) × hears heard × comes old heard answer
played hears comes old new said answer (inl did) is = (did.0, did.1, subst (λ r. IfOk r (comes old did.0)) is did.2)
played hears comes old new said answer (inr none) is = absurd (true≢false (sym (subst IsErr is none.1)))

-- What was asked at most once and has the status of what is done was asked once.
pub answered : (hears : List SessionExchange → Type 0) (request : Request) (heard : List SessionExchange) (answer : Answer Global)
    → hears heard → IsAskedOnce request heard answer → reported_status answer ≡ Statuses.Done → IsAnswered hears request
answered hears request heard answer had (inl is) done = (answer, subst hears is had, done)
answered hears request heard answer had (inr none) done = absurd (grind (arith, sym (ap reported_status none.1) ∙ done))

-- An answer that neither refuses a directory nor says that it was made has another status than that of what is done.
pub not_done : (answer : Answer Global) → is_refused answer ≡ false → is_made answer ≡ false → reported_status answer ≡ Statuses.Done → ⊥
not_done Answers.Done here unmade done = true≢false unmade
not_done (Answers.Path text) here unmade done = true≢false unmade
not_done (Answers.Octets text) here unmade done = grind (arith, done)
not_done (Answers.Number count) here unmade done = true≢false unmade
not_done (Answers.Stamp moment) here unmade done = grind (arith, done)
not_done (Answers.Entry entry) here unmade done = grind (arith, done)
not_done (Answers.Entries entries) here unmade done = grind (arith, done)
not_done (Answers.Names names) here unmade done = grind (arith, done)
not_done (Answers.Refused code) here unmade done = true≢false here
not_done Answers.BadOperation here unmade done = grind (arith, done)
not_done (Answers.Broken got mark) here unmade done = grind (arith, done)
not_done Answers.Unopened here unmade done = grind (arith, done)
not_done Answers.Foreign here unmade done = grind (arith, done)
not_done Answers.Lost here unmade done = grind (arith, done)
not_done Answers.Strange here unmade done = grind (arith, done)
not_done Answers.Memory here unmade done = grind (arith, done)

-- What was asked at most once, behind others, is the last of all where its answer has the status of what is done.
pub ends_behind : (path : List ℕ) (before : List SessionExchange) (request : Request) (heard : List SessionExchange) (answer : Answer Global)
    → IsOfDirectory path request → IsAskedOnce request heard answer → reported_status answer ≡ Statuses.Done → EndsAt path (before ++ heard) answer
ends_behind path before request heard answer of (inl is) done = (before, request, ap (λ last. before ++ last) is, of)
ends_behind path before request heard answer of (inr none) done = absurd (grind (arith, sym (ap reported_status none.1) ∙ done))
