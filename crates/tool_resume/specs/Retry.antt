-- What the answers of a server say of a try of a transfer (own choice: RFC 959, section 3.5, leaves the recovery of a transfer to the user).
use Rattle.std.specs.Prelude.{ℕ, ◌==◌, ◌&&◌, Bool, true, false, List, Option, Some, None, nat_eq, if◌then◌else◌}
use Rattle.std.specs.Cmp.Lexicographic.{pointwise}
use Rattle.ftp_operation.specs.declared.answer.Answer.{Answer}
use Rattle.ftp_operation.specs.declared.answer.Answer.TheVariants as Answers
use Rattle.ftp_operation.specs.declared.op.How.{How}
use Rattle.ftp_reply.specs.declared.code.TheConstants.{GIVEN_UP, UNAVAILABLE}
use Rattle.ftp_settings.specs.declared.representation.Kind.{Kind}
use Rattle.ftp_settings.specs.declared.representation.Kind.TheVariants as Kinds
use Rattle.ftp_settings.specs.declared.representation.Structure.{Structure}
use Rattle.ftp_settings.specs.declared.representation.Structure.TheVariants as Structures
use Rattle.tool_resume.specs.declared.step.There.{There}
use Rattle.tool_resume.specs.declared.step.There.TheVariants as Theres
use Rattle.tool_resume.specs.declared.step.Ended.{Ended}
use Rattle.tool_resume.specs.declared.step.Ended.TheVariants as Ends
use Rattle.tool_resume.specs.declared.step.FrontOwner.{FrontOwner}
use Rattle.tool_resume.specs.declared.step.FrontOwner.TheVariants as Fronts

-- in this type and structure SIZE counts the octets of the transfer (RFC 3659, section 4)
abbrev pub counts : Kind → Structure → Bool
counts Kinds.Image Structures.File = true
counts kind structure = false

-- it does so in a transfer that goes so
abbrev pub is_counted : How → Bool
is_counted how = counts how.representation.kind how.representation.structure

-- how a try ended that was answered so, with a data connection or without, which ended, or did not although the server says that all is done: 451 says
-- that the server gave up what it did (RFC 959, section 4.2.2); none where the answer is told, whatever is there
abbrev pub ended_by : {A : Type 0} → Answer A → (is_opened is_unended : Bool) → Option Ended
ended_by Answers.Done is_opened is_unended = Some Ends.Done
ended_by (Answers.Broken got mark) is_opened is_unended = Some (if is_unended then Ends.Unended else Ends.Broken)
ended_by (Answers.Refused code) is_opened is_unended = if code == GIVEN_UP && is_opened then Some Ends.Failed else None
ended_by Answers.Unopened is_opened is_unended = Some Ends.Unopened
ended_by answer is_opened is_unended = None

-- what the answer to SIZE tells (RFC 3659, section 4): 550 says that there is no such file
abbrev pub there_by : {A : Type 0} → Answer A → There
there_by (Answers.Number count) = Theres.Octets count
there_by (Answers.Refused code) = if code == UNAVAILABLE then Theres.Nothing else Theres.Untold
there_by Answers.Lost = Theres.Lost
there_by Answers.Strange = Theres.Lost
there_by answer = Theres.Untold

-- whose the end of a front is that was read back, beside the source's own octets at that place: an answer without octets gives none of them
abbrev pub owner_by : {A : Type 0} → Answer A → (own : List ℕ) → FrontOwner
owner_by (Answers.Octets octets) own = if pointwise nat_eq octets own then Fronts.Own else Fronts.Other
owner_by Answers.Lost own = Fronts.Lost
owner_by Answers.Strange own = Fronts.Lost
owner_by answer own = Fronts.Other
