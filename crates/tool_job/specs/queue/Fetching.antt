-- A file that is one of several which are fetched (own choice).
use Rattle.std.specs.Prelude.{Bool, true, false}
use Rattle.ftp_operation.specs.declared.answer.Answer.{Answer}
use Rattle.ftp_operation.specs.declared.answer.Answer.TheVariants as Answers
use Rattle.tool_job.specs.declared.queue.getting.FetchState.{FetchState}
use Rattle.tool_job.specs.declared.queue.getting.FetchState.TheVariants as States
use Rattle.tool_job.specs.declared.queue.getting.RefusalDetail.{RefusalDetail}
use Rattle.tool_job.specs.declared.queue.getting.RefusalDetail.TheVariants as Details

-- it is asked for as long as nothing keeps it from being written here
abbrev pub can_go_on : FetchState → Bool
can_go_on States.New = true
can_go_on States.Prepared = true
can_go_on (States.Unwritable error) = false

-- an answer says that the control connection ended
abbrev pub is_loss : {A : Type 0} → Answer A → Bool
is_loss Answers.Lost = true
is_loss answer = false

-- the line that the server said last is told: of a file of a pattern only where the control connection ended
abbrev pub is_told_in_full : {A : Type 0} → RefusalDetail → Answer A → Bool
is_told_in_full Details.Line answer = true
is_told_in_full Details.Code answer = is_loss answer
