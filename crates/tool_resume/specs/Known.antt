-- What a server told of a file that is downloaded (RFC 3659, sections 3 and 4), and what it is asked for (own choice).
use Rattle.std.specs.Prelude.{ℕ, Bool, true, false, Option, Some, None}
use Rattle.ftp_facts.specs.declared.moment.Moment.{Moment}
use Rattle.ftp_operation.specs.declared.answer.Answer.{Answer}
use Rattle.ftp_operation.specs.declared.answer.Answer.TheVariants as Answers
use Rattle.ftp_operation.specs.declared.op.How.{How}
use Rattle.tool_resume.specs.declared.known_file.KnownFile.{KnownFile}
use Rattle.tool_resume.specs.declared.known_file.KnownMoment.{KnownMoment}
use Rattle.tool_resume.specs.declared.known_file.KnownMoment.TheVariants as Moments
use Rattle.tool_resume.specs.declared.version.FileVersion.{FileVersion}
use Rattle.tool_resume.specs.declared.version.Size.{Size}
use Rattle.tool_resume.specs.declared.version.Size.TheVariants as Sizes
use Rattle.tool_resume.specs.Retry.{is_counted}
use Rattle.tool_resume.specs.Version.{last_change}

-- the size of a file of which nothing is known yet, in a transfer of which SIZE counts the octets or not
abbrev pub unknown_size : (counted : Bool) → Size
unknown_size true = Sizes.Untold
unknown_size false = Sizes.Uncounted

-- a file of which nothing is known yet, and whose moment is not asked for
abbrev pub unknown_file : How → KnownFile
unknown_file how = record { size = unknown_size (is_counted how); moment = Moments.Unasked; asked_at = 0 }

-- the moment, where the server told one
abbrev pub moment_told : KnownMoment → Option Moment
moment_told (Moments.Told moment) = Some moment
moment_told moment = None

-- the same in seconds from 1970
abbrev pub seconds_told : KnownMoment → Option ℕ
seconds_told (Moments.Told moment) = Some moment.seconds
seconds_told moment = None

-- which file that is
abbrev pub version_of : KnownFile → FileVersion
version_of file = record { size = file.size; changed = last_change (seconds_told file.moment) file.asked_at }

-- the server is asked for the size
abbrev pub asks_size : Size → Bool
asks_size (Sizes.Told total) = true
asks_size Sizes.Untold = true
asks_size size = false

-- the server is asked for the moment
abbrev pub asks_moment : KnownMoment → Bool
asks_moment (Moments.Told moment) = true
asks_moment Moments.Untold = true
asks_moment moment = false

-- the server told the moment
abbrev pub is_moment_told : KnownMoment → Bool
is_moment_told (Moments.Told moment) = true
is_moment_told moment = false

-- what is known of the size once SIZE is answered so: what was known before where the control connection ended
abbrev pub size_by : {A : Type 0} → Answer A → (before : Size) → Size
size_by (Answers.Number count) before = Sizes.Told count
size_by Answers.Strange before = Sizes.Strange
size_by Answers.Lost before = before
size_by answer before = Sizes.Untold

-- the same of the moment once MDTM is answered so
abbrev pub moment_by : {A : Type 0} → Answer A → (before : KnownMoment) → KnownMoment
moment_by (Answers.Stamp moment) before = Moments.Told moment
moment_by Answers.Strange before = Moments.Strange
moment_by Answers.Lost before = before
moment_by answer before = Moments.Untold

-- more is answered over a control connection that answered so: it did not end, and the server said what has its place
abbrev pub answers_more : {A : Type 0} → Answer A → Bool
answers_more Answers.Lost = false
answers_more Answers.Strange = false
answers_more answer = true
