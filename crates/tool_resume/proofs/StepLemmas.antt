-- After the last try no further one follows, and octets of one file alone stay.
use Rattle.std.proofs.Common.{◌≡◌, ℕ, Bool, true, false, Option, Some, None, refl, ap, true≢false}
use Rattle.std.specs.Prelude.{◌==◌, ◌&&◌, ◌||◌, not, nat_le, if◌then◌else◌}
use Rattle.tool_resume.specs.declared.step.Ended.{Ended}
use Rattle.tool_resume.specs.declared.step.Ended.TheVariants as Ends
use Rattle.tool_resume.specs.declared.step.NextStep.{NextStep}
use Rattle.tool_resume.specs.declared.step.NextStep.TheVariants as Steps
use Rattle.tool_resume.specs.declared.step.There.{There}
use Rattle.tool_resume.specs.declared.step.There.TheVariants as Theres
use Rattle.tool_resume.specs.declared.step.TransferState.{TransferState}
use Rattle.tool_resume.specs.declared.version.FileVersion.{FileVersion}
use Rattle.tool_resume.specs.Steps.{follows, goes_on, is_own, is_try, kept_octets}
use Rattle.tool_resume.specs.Tries.{after_same, follows_download, is_all, is_past, is_sized, is_whole}
use Rattle.tool_resume.specs.Version.{has_so_many, is_seen_again, resumes, size_told, stays}

-- what is so of both steps is so of either
either_so : {X : Type 0} (f : NextStep → X) (b : Bool) (one other : NextStep) (x : X) → f one ≡ x → f other ≡ x → f (if b then one else other) ≡ x
either_so f true one other x is so = is
either_so f false one other x is so = so

-- After the last try of a download no further one follows.
pub no_download_follows : (ended : Ended) (came : ℕ) (before : FileVersion) (now : Option FileVersion)
    → is_try (follows_download 0 ended came before now) ≡ false
no_download_follows Ends.Done came before (Some now) =
    either_so is_try (stays before now) (after_same 0 before now came) Steps.Tell false
    (either_so is_try (is_all (size_told now.size) came) Steps.Done (Steps.Wrong came) false refl refl) refl
no_download_follows Ends.Broken came before (Some now) = refl
no_download_follows Ends.Failed came before (Some now) = refl
no_download_follows Ends.Unended came before (Some now) =
    either_so is_try (stays before now && is_whole (size_told now.size) came) Steps.Done Steps.Tell false refl refl
no_download_follows Ends.Unopened came before (Some now) = refl
no_download_follows Ends.Done came before None = refl
no_download_follows Ends.Broken came before None = refl
no_download_follows Ends.Failed came before None = refl
no_download_follows Ends.Unended came before None = refl
no_download_follows Ends.Unopened came before None = refl

-- a size that is told as another one than the file's after the last try
told_so : (b : Bool) (count : ℕ) (rest : NextStep) → is_try (if b || true then Steps.Wrong count else rest) ≡ false
told_so true count rest = refl
told_so false count rest = refl

-- After the last try of an upload no further one follows.
pub no_upload_follows : (total : ℕ) (older : There) (ended : Ended) (there : There)
    → is_try (follows (record { total = total; left = 0; older = older }) ended there) ≡ false
no_upload_follows total older Ends.Done (Theres.Octets count) =
    let t : TransferState = record { total = total; left = 0; older = older } in
    either_so is_try (count == total) Steps.Done (if not (nat_le count total) || true then Steps.Wrong count else goes_on t count) false refl
    (told_so (not (nat_le count total)) count (goes_on t count))
no_upload_follows total older Ends.Done Theres.Nothing = refl
no_upload_follows total older Ends.Done Theres.Untold = refl
no_upload_follows total older Ends.Done Theres.Lost = refl
no_upload_follows total older Ends.Broken (Theres.Octets count) = refl
no_upload_follows total older Ends.Broken Theres.Nothing = refl
no_upload_follows total older Ends.Broken Theres.Untold = refl
no_upload_follows total older Ends.Broken Theres.Lost = refl
no_upload_follows total older Ends.Failed (Theres.Octets count) = refl
no_upload_follows total older Ends.Failed Theres.Nothing = refl
no_upload_follows total older Ends.Failed Theres.Untold = refl
no_upload_follows total older Ends.Failed Theres.Lost = refl
no_upload_follows total older Ends.Unended (Theres.Octets count) = either_so is_try (count == total) Steps.Done Steps.Tell false refl refl
no_upload_follows total older Ends.Unended Theres.Nothing = refl
no_upload_follows total older Ends.Unended Theres.Untold = refl
no_upload_follows total older Ends.Unended Theres.Lost = refl
no_upload_follows total older Ends.Unopened there = refl

-- a download begins anew where the file is not seen to be the one of before
anew : (before now : FileVersion) (came : ℕ) → is_seen_again before now ≡ false → resumes before now came ≡ 0
anew before now came is = ap (λ seen. if seen && has_so_many (size_told now.size) came then came else 0) is

-- so after a break
none_after_break : (left came : ℕ) (before now : FileVersion) → is_seen_again before now ≡ false
    → kept_octets (if left == 0 || not (is_sized (size_told before.size)) then Steps.Tell else Steps.From (resumes before now came)) ≡ 0
none_after_break left came before now is =
    either_so kept_octets (left == 0 || not (is_sized (size_told before.size))) Steps.Tell (Steps.From (resumes before now came)) 0 refl
    (anew before now came is)

-- Octets of a download stay only where the file is seen to be the one that they came of.
pub one_file_stays : (left : ℕ) (ended : Ended) (came : ℕ) (before now : FileVersion) → is_seen_again before now ≡ false
    → kept_octets (follows_download left ended came before (Some now)) ≡ 0
one_file_stays left Ends.Done came before now is =
    either_so kept_octets (stays before now) (after_same left before now came) (if left == 0 then Steps.Tell else Steps.From 0) 0
    (either_so kept_octets (is_all (size_told now.size) came) Steps.Done
    (if left == 0 || is_past (size_told now.size) came then Steps.Wrong came else Steps.From (resumes before now came)) 0 refl
    (either_so kept_octets (left == 0 || is_past (size_told now.size) came) (Steps.Wrong came) (Steps.From (resumes before now came)) 0 refl
    (anew before now came is)))
    (either_so kept_octets (left == 0) Steps.Tell (Steps.From 0) 0 refl refl)
one_file_stays left Ends.Broken came before now is = none_after_break left came before now is
one_file_stays left Ends.Failed came before now is = none_after_break left came before now is
one_file_stays left Ends.Unended came before now is =
    either_so kept_octets (stays before now && is_whole (size_told now.size) came) Steps.Done Steps.Tell 0 refl refl
one_file_stays left Ends.Unopened came before now is = either_so kept_octets (left == 0) Steps.Tell Steps.Again 0 refl refl

-- octets that are not known to be of this upload do not stay
none_beside : (b own : Bool) (count : ℕ) (rest : NextStep) → own ≡ false → kept_octets rest ≡ 0
    → kept_octets (if b && own then Steps.From count else rest) ≡ 0
none_beside true true count rest is none = absurd (true≢false is)
none_beside true false count rest is none = none
none_beside false own count rest is none = none

-- Octets that a server has stay only where they are known to be of this upload.
pub one_upload_stays : (upload : TransferState) (ended : Ended) (count : ℕ) → is_own upload.older count ≡ false
    → kept_octets (follows upload ended (Theres.Octets count)) ≡ 0
one_upload_stays t Ends.Done count is =
    either_so kept_octets (count == t.total) Steps.Done
    (if not (nat_le count t.total) || t.left == 0 then Steps.Wrong count else goes_on t count) 0 refl
    (either_so kept_octets (not (nat_le count t.total) || t.left == 0) (Steps.Wrong count) (goes_on t count) 0 refl
    (none_beside true (is_own t.older count) count (Steps.From 0) is refl))
one_upload_stays t Ends.Broken count is =
    either_so kept_octets (t.left == 0) Steps.Tell (if nat_le count t.total && is_own t.older count then Steps.From count else Steps.From 0) 0 refl
    (none_beside (nat_le count t.total) (is_own t.older count) count (Steps.From 0) is refl)
one_upload_stays t Ends.Failed count is =
    either_so kept_octets (t.left == 0) Steps.Tell (if nat_le count t.total && is_own t.older count then Steps.From count else Steps.Tell) 0 refl
    (none_beside (nat_le count t.total) (is_own t.older count) count Steps.Tell is refl)
one_upload_stays t Ends.Unended count is = either_so kept_octets (count == t.total) Steps.Done Steps.Tell 0 refl refl
one_upload_stays t Ends.Unopened count is = either_so kept_octets (t.left == 0) Steps.Tell Steps.Again 0 refl refl
