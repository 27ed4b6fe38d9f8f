-- How a download ended, for what is left of it at this end (own choice).
use Rattle.std.specs.Prelude.{Bool, true, false, Option, Some, None}
use Rattle.std.specs.declared.io.Error.{Error}
use Rattle.ftp_operation.specs.declared.answer.Answer.{Answer}
use Rattle.ftp_operation.specs.declared.answer.Answer.TheVariants as Answers
use Rattle.ftp_operation.specs.declared.op.How.{How}
use Rattle.ftp_settings.specs.declared.representation.Mode.{Mode}
use Rattle.ftp_settings.specs.declared.representation.Mode.TheVariants as Modes
use Rattle.ftp_settings.specs.declared.representation.Structure.{Structure}
use Rattle.ftp_settings.specs.declared.representation.Structure.TheVariants as Structures
use Rattle.tool_resume.specs.declared.version.Arrival.{Arrival}
use Rattle.tool_resume.specs.declared.version.Arrival.TheVariants as Arrivals
use Rattle.tool_job.specs.declared.single.leaving.DownloadEnd.{DownloadEnd}
use Rattle.tool_job.specs.declared.single.leaving.DownloadEnd.TheVariants as Ends

-- where the server says that it is done, by what came
abbrev pub end_of_arrival : Arrival → DownloadEnd
end_of_arrival Arrivals.Whole = Ends.Whole
end_of_arrival Arrivals.Unknown = Ends.Unchecked
end_of_arrival (Arrivals.Wrong total) = Ends.Wrong total
end_of_arrival (Arrivals.TooLarge total) = Ends.TooLarge total
end_of_arrival Arrivals.Past = Ends.Past
end_of_arrival Arrivals.Changed = Ends.Changed

-- where all that came is written, by the answer
abbrev pub end_of_answer : {A : Type 0} → Answer A → Arrival → DownloadEnd
end_of_answer Answers.Done arrival = end_of_arrival arrival
end_of_answer (Answers.Broken got mark) arrival = Ends.Broken
end_of_answer answer arrival = Ends.Told

-- that the part can't be written comes before all
abbrev pub end_by : {A : Type 0} → Option Error → Answer A → Arrival → DownloadEnd
end_by (Some fault) answer arrival = Ends.Unwritten fault
end_by None answer arrival = end_of_answer answer arrival

-- the file is written: all of it came, as far as its size is known
abbrev pub is_written : DownloadEnd → Bool
is_written Ends.Whole = true
is_written Ends.Unchecked = true
is_written end = false

-- the end of the file is among the octets of the transfer: in block mode and in record structure (RFC 959, sections 3.4.1 and 3.4.2)
abbrev pub ends_within : Mode → Structure → Bool
ends_within Modes.Block structure = true
ends_within Modes.Stream Structures.Record = true
ends_within Modes.Stream Structures.File = false

abbrev pub has_end : How → Bool
has_end how = ends_within how.representation.mode how.representation.structure
