-- How a mirror copies a file, and when a copy counts (own choice; SIZE by RFC 3659, section 4).
use Rattle.std.specs.Prelude.{ℕ, ◌==◌, Bool, true, Option, Some, None, Result, Ok, Err, nat_lt, if◌then◌else◌}
use Rattle.ftp_operation.specs.declared.answer.Answer.{Answer}
use Rattle.ftp_operation.specs.declared.answer.Answer.TheVariants as Answers
use Rattle.tool_resume.specs.Held.{limit_held}
use Rattle.tool_resume.specs.declared.uploading.Wrong.{Wrong}
use Rattle.tool_resume.specs.Held.{limit_held}
use Rattle.tool_resume.specs.declared.uploading.Wrong.TheVariants as Wrongs
use Rattle.tool_resume.specs.declared.version.Arrival.{Arrival}
use Rattle.tool_resume.specs.declared.version.Arrival.TheVariants as Arrivals
use Rattle.tool_mirror.specs.declared.fault.MirrorFault.{MirrorFault}
use Rattle.tool_mirror.specs.declared.fault.MirrorFault.TheVariants as Faults
use Rattle.tool_mirror.specs.Fault.{fault_by}

-- a file that was listed here with so many octets is read as it goes: one that has more than are held of such a one anyway
abbrev pub is_drawn : Option ℕ → Bool
is_drawn None = true
is_drawn (Some octets) = nat_lt 65536 octets

-- a file has more octets than are held ahead, or it is not known how many
abbrev pub is_large : Option ℕ → Bool
is_large None = true
is_large (Some octets) = nat_lt 67108864 octets

-- the most octets of a download: what goes to no part is held in memory
abbrev pub limit_to : (limit : ℕ) → (has_part : Bool) → ℕ
limit_to limit has_part = if has_part then limit else limit_held limit

-- the octets of a download that the server says is done, of which so many came, and so many may: it counts where all came, as far as the server tells
abbrev pub whole_by : Arrival → (count limit : ℕ) → Result ℕ MirrorFault
whole_by Arrivals.Whole count limit = Ok count
whole_by Arrivals.Unknown count limit = Ok count
whole_by (Arrivals.Wrong total) count limit = Err (Faults.OtherSize count total)
whole_by (Arrivals.TooLarge size) count limit = Err (Faults.TooLarge size limit)
whole_by Arrivals.Changed count limit = Err Faults.Changed
whole_by Arrivals.Past count limit = Err (Faults.PastLimit limit)

-- so many octets, where an upload is done
abbrev pub counted_by : {A : Type 0} → Answer A → ℕ → Result ℕ MirrorFault
counted_by Answers.Done count = Ok count
counted_by answer count = Err (fault_by answer)

-- the same of one that is read as it goes: the server may tell another size behind it, or that there is no such file
abbrev pub sent_by : {A : Type 0} → Answer A → Option Wrong → ℕ → Result ℕ MirrorFault
sent_by Answers.Done (Some (Wrongs.Octets count)) total = Err (Faults.OtherSize total count)
sent_by Answers.Done (Some Wrongs.Nothing) total = Err Faults.Vanished
sent_by Answers.Done None total = Ok total
sent_by answer wrong total = Err (fault_by answer)

-- so many octets, unless the answer to SIZE tells another number of them; it is not known where the control connection ended
abbrev pub agreed_by : {A : Type 0} → Answer A → ℕ → Result ℕ MirrorFault
agreed_by (Answers.Number total) count = if total == count then Ok count else Err (Faults.OtherSize count total)
agreed_by Answers.Lost count = Err Faults.Lost
agreed_by answer count = Ok count
