-- What follows a try of a download (own choice: RFC 959, section 3.5, leaves the recovery of a transfer to the user). After a try the server is asked
-- once more which file it has: octets of two files are never joined, and none is done whose file is another one by then.
use Rattle.std.specs.Prelude.{ℕ, ◌==◌, ◌&&◌, ◌||◌, Bool, true, false, not, nat_lt, Option, Some, None, if◌then◌else◌}
use Rattle.std.specs.declared.io.Error.{Error}
use Rattle.tool_session.specs.declared.request_state.DataEnding.{DataEnding}
use Rattle.tool_session.specs.declared.request_state.DataEnding.TheVariants as Endings
use Rattle.tool_resume.specs.declared.download_tries.TryResult.{TryResult}
use Rattle.tool_resume.specs.declared.download_tries.TryResult.TheVariants as Results
use Rattle.tool_resume.specs.declared.download_tries.VersionCheck.{VersionCheck}
use Rattle.tool_resume.specs.declared.download_tries.VersionCheck.TheVariants as Checks
use Rattle.tool_resume.specs.declared.step.FrontOwner.{FrontOwner}
use Rattle.tool_resume.specs.declared.step.FrontOwner.TheVariants as Fronts
use Rattle.tool_resume.specs.declared.step.Ended.{Ended}
use Rattle.tool_resume.specs.declared.step.Ended.TheVariants as Ends
use Rattle.tool_resume.specs.declared.step.NextStep.{NextStep}
use Rattle.tool_resume.specs.declared.step.NextStep.TheVariants as Steps
use Rattle.tool_resume.specs.declared.version.FileVersion.{FileVersion}
use Rattle.tool_resume.specs.Version.{resumes, size_told, stays}

-- all octets came, as far as the size is told
abbrev pub is_all : Option ℕ → ℕ → Bool
is_all (Some total) came = came == total
is_all None came = true

-- all octets came of a file whose size is told
abbrev pub is_whole : Option ℕ → ℕ → Bool
is_whole (Some total) came = came == total
is_whole None came = false

-- more octets came than the file has, where its size is told
abbrev pub is_past : Option ℕ → ℕ → Bool
is_past (Some total) came = nat_lt total came
is_past None came = false

-- after a try that the server says is done, where the file is the one of before: all of it has to be there
abbrev pub after_same : ℕ → FileVersion → FileVersion → ℕ → NextStep
after_same left before now came =
    if is_all (size_told now.size) came then Steps.Done
    else (if left == 0 || is_past (size_told now.size) came then Steps.Wrong came else Steps.From (resumes before now came))

-- after one that the server says is done: where the file is another one by now, the download begins anew
abbrev pub after_done : ℕ → FileVersion → FileVersion → ℕ → NextStep
after_done left before now came =
    if stays before now then after_same left before now came else (if left == 0 then Steps.Tell else Steps.From 0)

-- the size was told before the try
abbrev pub is_sized : Option ℕ → Bool
is_sized None = false
is_sized (Some total) = true

-- after one that broke off
abbrev pub after_break : ℕ → FileVersion → FileVersion → ℕ → NextStep
after_break left before now came =
    if left == 0 || not (is_sized (size_told before.size)) then Steps.Tell else Steps.From (resumes before now came)

-- after one that the server says is done, whose data connection did not end: all has to be there, and it is not tried again
abbrev pub after_unended : FileVersion → FileVersion → ℕ → NextStep
after_unended before now came = if stays before now && is_whole (size_told now.size) came then Steps.Done else Steps.Tell

-- no data connection was opened
abbrev pub after_unopened : ℕ → NextStep
after_unopened left = if left == 0 then Steps.Tell else Steps.Again

-- after each, where the server told this of the file before what came, and this now
abbrev pub after : ℕ → Ended → FileVersion → FileVersion → ℕ → NextStep
after left Ends.Done before now came = after_done left before now came
after left Ends.Broken before now came = after_break left before now came
after left Ends.Failed before now came = after_break left before now came
after left Ends.Unended before now came = after_unended before now came
after left Ends.Unopened before now came = after_unopened left

-- after each, where the control connection ended before the server told which file it has: what the server says is done is only looked at over another
-- one, and takes no further try
abbrev pub after_loss : ℕ → Ended → NextStep
after_loss left Ends.Done = Steps.Lost
after_loss left Ends.Broken = if left == 0 then Steps.Tell else Steps.Lost
after_loss left Ends.Failed = if left == 0 then Steps.Tell else Steps.Lost
after_loss left Ends.Unended = if left == 0 then Steps.Tell else Steps.Lost
after_loss left Ends.Unopened = after_unopened left

-- after a try of a download of which so many octets came so far, where so many tries may still begin
abbrev pub follows_download : ℕ → Ended → ℕ → FileVersion → Option FileVersion → NextStep
follows_download left ended came before (Some now) = after left ended before now came
follows_download left ended came before None = after_loss left ended

-- what comes of a try whose data connection ended so, where the part is written and of no other file
abbrev pub result_of_ending : DataEnding → TryResult
result_of_ending Endings.PastLimit = Results.PastLimit
result_of_ending ending = Results.Answered

-- the same, where the part is written, and of this owner
abbrev pub result_of_part : FrontOwner → DataEnding → TryResult
result_of_part Fronts.Other ending = Results.OtherPart
result_of_part owner ending = result_of_ending ending

-- what comes of a try: a part that can't be written comes first, then one of another file, and then the limit
abbrev pub try_result : Option Error → FrontOwner → DataEnding → TryResult
try_result (Some fault) owner ending = Results.Unwritten
try_result None owner ending = result_of_part owner ending

-- a download has ended: no try may begin, and the server did not say over the last control connection that it is done
abbrev pub is_spent : (left : ℕ) → VersionCheck → Bool
is_spent left Checks.Said = false
is_spent left check = left == 0

-- after a try that ended so the server is asked which file it has: where anything may follow that
abbrev pub is_asked_after : Ended → (total : Option ℕ) → (left : ℕ) → Bool
is_asked_after Ends.Done total left = true
is_asked_after Ends.Unended total left = is_sized total
is_asked_after Ends.Broken total left = is_sized total && nat_lt 0 left
is_asked_after Ends.Failed total left = is_sized total && nat_lt 0 left
is_asked_after Ends.Unopened total left = false

-- the server said that it is done, and not which file it has by then
abbrev pub is_said : Ended → Option FileVersion → Bool
is_said Ends.Done None = true
is_said ended now = false

-- which octets count after a try: where the server says that all is sent, those that are seen to be the file's
abbrev pub counted_octets : Ended → (came seen : ℕ) → ℕ
counted_octets Ends.Done came seen = seen
counted_octets Ends.Unended came seen = seen
counted_octets ended came seen = came
