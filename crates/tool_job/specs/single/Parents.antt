-- Which directories the path of a directory passes through, and when all of them stand (own choice; RFC 959, section 5.3.2, leaves pathnames to the server).
use Rattle.std.specs.Prelude.{◌≡◌, ◌⊎◌, ◌++◌, ℕ, ◌==◌, ◌&&◌, ◌||◌, List, [], ◌∷◌, length, nat_eq, not, Bool, true, false, IfOk, Result, Some}
use Rattle.std.specs.Global.{Global}
use Rattle.std.specs.Str.Pattern.{FindsCharSuffix, IsTrimEndMatches}
use Rattle.ftp_operation.specs.declared.answer.Answer.{Answer}
use Rattle.ftp_operation.specs.declared.answer.Answer.TheVariants as Answers
use Rattle.ftp_operation.specs.declared.op.Op.TheVariants as Ops
use Rattle.std.specs.List.{ends_with, starts_with}
use Rattle.tool_job.specs.single.Simple.{reported_status}
use Rattle.tool_location.specs.Location.{slash}
use Rattle.tool_session.specs.Talking.{SessionExchange}
use Rattle.tool_session.specs.declared.request.Request.{Request}
use Rattle.tool_session.specs.declared.request.Request.TheVariants as Requests
use Rattle.tool_terminal.specs.declared.status.Status.{Status}
use Rattle.tool_terminal.specs.declared.status.Status.TheVariants as Statuses

-- a path that is cut in two has a directory as its first part: a name ends there, and a slash comes next, or nothing
abbrev pub is_passed : (front rest : List ℕ) → Bool
is_passed front rest =
    not (length front == 0) && not (ends_with nat_eq front (slash ∷ [])) && ((length rest == 0) || starts_with nat_eq rest (slash ∷ []))

-- the server refuses a directory above: it may stand, so the next one below is tried
abbrev pub is_refused : {A : Type 0} → Answer A → Bool
is_refused (Answers.Refused code) = true
is_refused answer = false

-- the server made it, or says that all is done
abbrev pub is_made : {A : Type 0} → Answer A → Bool
is_made Answers.Done = true
is_made (Answers.Path text) = true
is_made (Answers.Number count) = true
is_made answer = false

-- what is asked of a directory: to go into it, and to make it
abbrev pub entering : List ℕ → Request
entering path = Requests.One (Some (Ops.ChangeDir path))

abbrev pub making : List ℕ → Request
making path = Requests.One (Some (Ops.MakeDir path))

-- a request that is answered well only where a directory stands at the path: to go into it, or to make it, without the slashes at the end of its path
abbrev pub IsOfDirectory : List ℕ → Request → Type 0
IsOfDirectory path request =
    (request ≡ entering path) ⊎ ((whole : List ℕ) × IsTrimEndMatches (FindsCharSuffix slash) path whole × (request ≡ making whole))

-- the last of what was asked was of the directory at this path, and was answered so
abbrev pub EndsAt : List ℕ → List SessionExchange → Answer Global → Type 0
EndsAt path heard answer = (before : List SessionExchange) × (request : Request) × (heard ≡ before ++ (request, answer) ∷ []) × IsOfDirectory path request

-- with the status of what is done the server was asked for the directory at this path last, and answered that it stands now
abbrev pub MakesAll : {E : Type 0} → (List SessionExchange → Type 0) → List ℕ → Result Status E → Type 0
MakesAll hears path result = IfOk result (λ status. status ≡ Statuses.Done
    → (heard : List SessionExchange) × (answer : Answer Global) × hears heard × EndsAt path heard answer × (reported_status answer ≡ Statuses.Done))
