-- What the words ask of a server that need no data connection (RFC 959, section 4.1.3; RFC 3659, section 4), and how they end.
use Rattle.std.specs.Prelude.{◌≡◌, ◌⊎◌, ℕ, List, [], ◌∷◌, IfOk, Result, Some}
use Rattle.std.specs.Global.{Global}
use Rattle.ftp_operation.specs.declared.answer.Answer.{Answer}
use Rattle.ftp_operation.specs.declared.answer.Answer.TheVariants as Answers
use Rattle.ftp_operation.specs.declared.op.How.{How}
use Rattle.ftp_operation.specs.declared.op.Op.{Op}
use Rattle.ftp_operation.specs.declared.op.Op.TheVariants as Ops
use Rattle.tool_job.specs.declared.single.simple.Simple.{Simple}
use Rattle.tool_job.specs.declared.single.simple.Simple.TheVariants as Words
use Rattle.tool_resume.specs.Telling.{told_status}
use Rattle.tool_session.specs.Talking.{SessionExchange}
use Rattle.tool_session.specs.declared.request.Request.{Request}
use Rattle.tool_session.specs.declared.request.Request.TheVariants as Requests
use Rattle.tool_terminal.specs.declared.status.Status.{Status}
use Rattle.tool_terminal.specs.declared.status.Status.TheVariants as Statuses

-- the operation of a word at a path
abbrev pub op_of : Simple → List ℕ → How → Op (List ℕ)
op_of Words.Remove path how = Ops.Delete path
op_of Words.MakeDirectory path how = Ops.MakeDir path
op_of Words.RemoveDirectory path how = Ops.RemoveDir path
op_of (Words.Move to) path how = Ops.Rename path to.now
op_of Words.Size path how = Ops.Size path how

-- what is asked for it
abbrev pub change_of : Simple → List ℕ → How → Request
change_of simple path how = Requests.One (Some (op_of simple path how))

-- the exit status of an answer: a change is done, or a size is told, and else that of what is told
abbrev pub reported_status : {A : Type 0} → Answer A → Status
reported_status Answers.Done = Statuses.Done
reported_status (Answers.Path text) = Statuses.Done
reported_status (Answers.Number count) = Statuses.Done
reported_status answer = told_status answer

-- this was asked once, and answered so; or memory was refused, and nothing was asked
abbrev pub IsAskedOnce : Request → List SessionExchange → Answer Global → Type 0
IsAskedOnce request heard answer = (heard ≡ (request, answer) ∷ []) ⊎ ((heard ≡ []) × (answer ≡ Answers.Memory))

-- this was asked, that alone and once, and the answer says that it is done
abbrev pub IsAnswered : (List SessionExchange → Type 0) → Request → Type 0
IsAnswered hears request = (answer : Answer Global) × hears ((request, answer) ∷ []) × (reported_status answer ≡ Statuses.Done)

-- a status is that of the answer to this, which was asked once
abbrev pub DoesOnce : {E : Type 0} → (List SessionExchange → Type 0) → Request → Result Status E → Type 0
DoesOnce hears request result = IfOk result (λ status. (heard : List SessionExchange) × (answer : Answer Global) × hears heard × IsAskedOnce request heard answer
    × (status ≡ reported_status answer))
