-- With which exit status a program ends that tells why an operation was not done (own choice).
use Rattle.ftp_operation.specs.declared.answer.Answer.{Answer}
use Rattle.ftp_operation.specs.declared.answer.Answer.TheVariants as Answers
use Rattle.tool_terminal.specs.declared.status.Status.{Status}
use Rattle.tool_terminal.specs.declared.status.Status.TheVariants as Statuses

-- that of bad words for a path that can't be sent, that of a refusal where the server refused it or its data connection was none, and else that of a
-- failure; never that of what is done
abbrev pub told_status : {A : Type 0} → Answer A → Status
told_status Answers.BadOperation = Statuses.BadWords
told_status (Answers.Refused code) = Statuses.Refused
told_status (Answers.Broken got mark) = Statuses.Refused
told_status Answers.Unopened = Statuses.Refused
told_status Answers.Foreign = Statuses.Refused
told_status Answers.Strange = Statuses.Refused
told_status answer = Statuses.Failed
