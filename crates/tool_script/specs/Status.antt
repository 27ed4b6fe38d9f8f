-- How a program ends that reports answers (own choice).
use Rattle.std.specs.Prelude.{List, [], ◌∷◌}
use Rattle.ftp_operation.specs.declared.answer.Answer.{Answer}
use Rattle.ftp_operation.specs.declared.answer.Answer.TheVariants as Answers
use Rattle.tool_script.specs.declared.reading.NoScript.{NoScript}
use Rattle.tool_script.specs.declared.reading.NoScript.TheVariants as Nones
use Rattle.tool_terminal.specs.declared.status.Status.{Status}
use Rattle.tool_terminal.specs.declared.status.Status.TheVariants as Statuses
use Rattle.tool_terminal.specs.Status.{worse}

-- the status of an answer
abbrev pub status_of : {A : Type 0} → Answer A → Status
status_of Answers.Done = Statuses.Done
status_of (Answers.Path text) = Statuses.Done
status_of (Answers.Octets octets) = Statuses.Done
status_of (Answers.Number number) = Statuses.Done
status_of (Answers.Stamp moment) = Statuses.Done
status_of (Answers.Entry entry) = Statuses.Done
status_of (Answers.Entries entries) = Statuses.Done
status_of (Answers.Names names) = Statuses.Done
status_of (Answers.Refused code) = Statuses.Refused
status_of Answers.BadOperation = Statuses.Refused
status_of (Answers.Broken got mark) = Statuses.Refused
status_of Answers.Unopened = Statuses.Refused
status_of Answers.Foreign = Statuses.Refused
status_of Answers.Lost = Statuses.Refused
status_of Answers.Strange = Statuses.Refused
status_of Answers.Memory = Statuses.Refused

-- the worst status of answers that are reported after another of this status
abbrev pub worst_after : {A : Type 0} → Status → List (Answer A) → Status
worst_after status [] = status
worst_after status (answer ∷ answers) = worst_after (worse status (status_of answer)) answers

-- the worst status of answers
abbrev pub worst_of : {A : Type 0} → List (Answer A) → Status
worst_of answers = worst_after Statuses.Done answers

-- how a program ends that finds no script
abbrev pub status_without : NoScript → Status
status_without (Nones.Line number) = Statuses.BadWords
status_without (Nones.Failed error) = Statuses.Failed
