-- What a mirror asks and tells of a change, and how it ends (RFC 959, section 4.1.3; own choice).
use Rattle.std.specs.Prelude.{ℕ, ◌==◌, List, Result, Ok, Err, codes, if◌then◌else◌}
use Rattle.ftp_operation.specs.declared.answer.Answer.{Answer}
use Rattle.ftp_operation.specs.declared.answer.Answer.TheVariants as Answers
use Rattle.ftp_operation.specs.declared.op.Op.{Op}
use Rattle.ftp_operation.specs.declared.op.Op.TheVariants as Ops
use Rattle.tool_files.specs.declared.local.change.Change.{Change}
use Rattle.tool_files.specs.declared.local.change.Change.TheVariants as Changes
use Rattle.tool_session.specs.declared.fault.SessionFault.{SessionFault}
use Rattle.tool_mirror.specs.declared.mirroring.MirrorEnd.{MirrorEnd}
use Rattle.tool_mirror.specs.declared.mirroring.MirrorEnd.TheVariants as Ends

-- what a change does, as it is told
abbrev pub word_of : Change → List ℕ
word_of Changes.MakeDir = codes "make"
word_of Changes.RemoveFile = codes "remove"
word_of Changes.RemoveDir = codes "remove"

-- the operation of a change at a path
abbrev pub op_of : Change → List ℕ → Op (List ℕ)
op_of Changes.MakeDir path = Ops.MakeDir path
op_of Changes.RemoveFile path = Ops.Delete path
op_of Changes.RemoveDir path = Ops.RemoveDir path

-- how a mirror ended that was answered so, and in which so many things failed
abbrev pub end_by : {A : Type 0} → Result (Answer A) SessionFault → (failed : ℕ) → MirrorEnd
end_by (Ok Answers.Done) failed = if failed == 0 then Ends.Whole else Ends.InPart
end_by (Ok (Answers.Refused code)) failed = Ends.Unlisted code
end_by (Ok Answers.Lost) failed = Ends.Lost
end_by (Ok answer) failed = Ends.NoMemory
end_by (Err stop) failed = Ends.Stopped stop
