-- When a listing that was asked for may be of a file, and what is made of the facts of what stands there (RFC 959, section 4.2.2; RFC 3659, section 7).
use Rattle.std.specs.Prelude.{ℕ, ◌==◌, ◌||◌, ◌&&◌, Bool, true, false, length, Option, Some}
use Rattle.ftp_facts.specs.declared.entry.EntryKind.{EntryKind}
use Rattle.ftp_facts.specs.declared.entry.EntryKind.TheVariants as Kinds
use Rattle.ftp_operation.specs.declared.answer.Answer.{Answer}
use Rattle.ftp_operation.specs.declared.answer.Answer.TheVariants as Answers
use Rattle.ftp_reply.specs.declared.code.TheConstants.{BAD_ARGUMENT, UNAVAILABLE}

-- the codes by which servers say that no directory stands at a path: 501 (RFC 3659, section 7.2.1) and 550
abbrev pub means_no_directory : ℕ → Bool
means_no_directory code = code == BAD_ARGUMENT || code == UNAVAILABLE

-- an answer to the question for the entries of a directory after which a file may stand there: no directory does, or it has no entries
abbrev pub may_be_file : {A : Type 0} → Answer A → Bool
may_be_file (Answers.Refused code) = means_no_directory code
may_be_file (Answers.Entries entries) = length entries.items == 0
may_be_file answer = false

-- the type of a file
abbrev pub is_file_kind : {A : Type 0} → Option (EntryKind A) → Bool
is_file_kind (Some Kinds.File) = true
is_file_kind kind = false

-- the facts of what stands at a path are those of a file
abbrev pub is_file : {A : Type 0} → Answer A → Bool
is_file (Answers.Entry entry) = is_file_kind entry.kind
is_file answer = false

-- an answer that is told in the place of the refusal of a listing: nothing stands there, the control connection ended, or want of memory
abbrev pub says_more : {A : Type 0} → Answer A → Bool
says_more (Answers.Refused code) = code == UNAVAILABLE
says_more Answers.Lost = true
says_more Answers.Memory = true
says_more answer = false

-- the facts that were asked for are the answer, and not the listing that was refused, or has no entries
abbrev pub settles : {A : Type 0} → (is_refused : Bool) → Answer A → Bool
settles is_refused facts = is_file facts || (is_refused && says_more facts)
