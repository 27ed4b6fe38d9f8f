-- What a mirror makes of a server's answers (RFC 959, section 4.2.2; RFC 3659, sections 3, 4 and 7).
use Rattle.std.specs.Prelude.{ℕ, ◌==◌, ◌||◌, Bool, true, false, Option, Some, None, Result, Ok, Err, if◌then◌else◌}
use Rattle.ftp_operation.specs.declared.answer.Answer.{Answer}
use Rattle.ftp_operation.specs.declared.answer.Answer.TheVariants as Answers
use Rattle.ftp_reply.specs.declared.code.TheConstants.{NOT_IMPLEMENTED, UNAVAILABLE, UNKNOWN}
use Rattle.tool_mirror.specs.declared.fault.MirrorFault.{MirrorFault}
use Rattle.tool_mirror.specs.declared.fault.MirrorFault.TheVariants as Faults
use Rattle.tool_mirror.specs.Fault.{fault_by}

-- an answer says that it is done: so does the path of a directory that was made (RFC 959, appendix II)
abbrev pub is_done : {A : Type 0} → Answer A → Bool
is_done Answers.Done = true
is_done (Answers.Path path) = true
is_done answer = false

-- the codes of a server that knows no command of this name
abbrev pub is_unlisted : ℕ → Bool
is_unlisted code = code == UNKNOWN || code == NOT_IMPLEMENTED

-- an answer that says so
abbrev pub says_unknown : {A : Type 0} → Answer A → Bool
says_unknown (Answers.Refused code) = code == UNKNOWN || code == NOT_IMPLEMENTED
says_unknown answer = false

-- a refusal by 550 says that nothing stands there, and another one is a fault
abbrev pub refused_by : ℕ → Result Bool MirrorFault
refused_by code = if code == UNAVAILABLE then Ok false else Err (Faults.Refused code)

-- something stands at a path, by the answer to MLST; a file does, by that to SIZE
abbrev pub entry_stands_by : {A : Type 0} → Answer A → Result Bool MirrorFault
entry_stands_by (Answers.Entry entry) = Ok true
entry_stands_by (Answers.Refused code) = refused_by code
entry_stands_by answer = Err (fault_by answer)

abbrev pub file_stands_by : {A : Type 0} → Answer A → Result Bool MirrorFault
file_stands_by (Answers.Number size) = Ok true
file_stands_by (Answers.Refused code) = refused_by code
file_stands_by answer = Err (fault_by answer)

-- the size of a file, by the answer to SIZE; its moment, by that to MDTM: none where the server refuses to tell it
abbrev pub size_told : {A : Type 0} → Answer A → Result (Option ℕ) MirrorFault
size_told (Answers.Number size) = Ok (Some size)
size_told (Answers.Refused code) = Ok None
size_told answer = Err (fault_by answer)

abbrev pub moment_told : {A : Type 0} → Answer A → Result (Option ℕ) MirrorFault
moment_told (Answers.Stamp moment) = Ok (Some moment.seconds)
moment_told (Answers.Refused code) = Ok None
moment_told answer = Err (fault_by answer)

-- the answer to MDTM is this moment; it is not known where the control connection ended
abbrev pub is_moment : {A : Type 0} → Answer A → ℕ → Result Bool MirrorFault
is_moment (Answers.Stamp told) moment = Ok (told.seconds == moment)
is_moment Answers.Lost moment = Err Faults.Lost
is_moment answer moment = Ok false
