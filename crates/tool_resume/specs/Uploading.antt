-- How an upload ends, and what is asked before its first try over the next control connection (own choice).
use Rattle.std.specs.Prelude.{Bool, true, false, Option, Some, None}
use Rattle.ftp_operation.specs.declared.answer.Answer.{Answer}
use Rattle.ftp_operation.specs.declared.answer.Answer.TheVariants as Answers
use Rattle.tool_resume.specs.declared.step.There.{There}
use Rattle.tool_resume.specs.declared.step.There.TheVariants as Theres
use Rattle.tool_resume.specs.declared.uploading.FirstLook.{FirstLook}
use Rattle.tool_resume.specs.declared.uploading.FirstLook.TheVariants as Looks
use Rattle.tool_resume.specs.declared.uploading.Wrong.{Wrong}
use Rattle.tool_resume.specs.declared.uploading.Wrong.TheVariants as Wrongs
use Rattle.tool_resume.specs.Telling.{told_status}
use Rattle.tool_terminal.specs.declared.status.Status.{Status}
use Rattle.tool_terminal.specs.declared.status.Status.TheVariants as Statuses

-- the size of what stands there is left out before a first try
abbrev pub is_left_out : FirstLook → Bool
is_left_out Looks.Asked = false
is_left_out Looks.LeftOut = true

-- it is left out over the next control connection, where this one ended behind the question for it
abbrev pub look_after : There → FirstLook
look_after Theres.Lost = Looks.LeftOut
look_after there = Looks.Asked

-- the exit status of an upload that the server says is done: all is done where it has not told another size since; it may have taken the file away
abbrev pub done_status : Option Wrong → Status
done_status (Some (Wrongs.Octets count)) = Statuses.Refused
done_status wrong = Statuses.Done

-- the exit status of an upload that was answered so
abbrev pub upload_status : {A : Type 0} → Answer A → Option Wrong → Status
upload_status Answers.Done wrong = done_status wrong
upload_status answer wrong = told_status answer
