-- Worked rows: what follows a try of a transfer of ten octets (RFC 959, section 3.5, leaves it to the user; RFC 3659, sections 3 and 4, has the numbers).
-- Each is a theorem that computes.
use Rattle.std.specs.Prelude.{◌≡◌, true, false, Some, None}
use Rattle.tool_resume.specs.declared.step.Ended.TheVariants as Ends
use Rattle.tool_resume.specs.declared.step.FrontOwner.TheVariants as Fronts
use Rattle.tool_resume.specs.declared.step.NextStep.TheVariants as Steps
use Rattle.tool_resume.specs.declared.step.There.TheVariants as Theres
use Rattle.tool_resume.specs.declared.step.TransferState.{TransferState}
use Rattle.tool_resume.specs.declared.version.FileVersion.{FileVersion}
use Rattle.tool_resume.specs.declared.version.LastChange.TheVariants as Changes
use Rattle.tool_resume.specs.declared.version.Size.TheVariants as Sizes
use Rattle.tool_resume.specs.Steps.{follows, joins, part_owner}
use Rattle.tool_resume.specs.Tries.{follows_download}
use Rattle.tool_resume.specs.Version.{last_change}

-- uploads: where nothing stood before; where four octets did; after the last try
abbrev pub over_nothing : TransferState
over_nothing = record { total = 10; left = 3; older = Theres.Nothing }

abbrev pub over_four : TransferState
over_four = record { total = 10; left = 3; older = Theres.Octets 4 }

abbrev pub last_try : TransferState
last_try = record { total = 10; left = 0; older = Theres.Nothing }

-- what follows a try of an upload, by what is there
abbrev pub UploadsFollowed : Type 0
UploadsFollowed =
    (follows over_nothing Ends.Done (Theres.Octets 10) ≡ Steps.Done)
    × (follows over_nothing Ends.Done (Theres.Octets 4) ≡ Steps.From 4)
    × (follows over_nothing Ends.Done (Theres.Octets 12) ≡ Steps.Wrong 12)
    × (follows over_nothing Ends.Done Theres.Nothing ≡ Steps.Missing)
    × (follows over_nothing Ends.Done Theres.Untold ≡ Steps.Done)
    × (follows over_four Ends.Done (Theres.Octets 4) ≡ Steps.From 0)
    × (follows over_four Ends.Done (Theres.Octets 6) ≡ Steps.From 6)
    × (follows last_try Ends.Done (Theres.Octets 4) ≡ Steps.Wrong 4)
    × (follows over_nothing Ends.Broken (Theres.Octets 4) ≡ Steps.From 4)
    × (follows over_nothing Ends.Broken (Theres.Octets 12) ≡ Steps.From 0)
    × (follows over_four Ends.Broken (Theres.Octets 4) ≡ Steps.From 0)
    × (follows over_nothing Ends.Broken Theres.Nothing ≡ Steps.From 0)
    × (follows over_nothing Ends.Broken Theres.Untold ≡ Steps.Tell)
    × (follows over_nothing Ends.Broken Theres.Lost ≡ Steps.Lost)
    × (follows last_try Ends.Broken (Theres.Octets 4) ≡ Steps.Tell)
    × (follows over_nothing Ends.Failed (Theres.Octets 4) ≡ Steps.From 4)
    × (follows over_nothing Ends.Failed Theres.Nothing ≡ Steps.Tell)
    × (follows over_nothing Ends.Unopened Theres.Untold ≡ Steps.Again)
    × (follows last_try Ends.Unopened Theres.Untold ≡ Steps.Tell)

-- a file of ten octets that was changed at second 5, told long after that or soon; the same changed at second 6; one of which nothing is told
abbrev pub ten : FileVersion
ten = record { size = Sizes.Told 10; changed = Changes.Settled 5 }

abbrev pub fresh_ten : FileVersion
fresh_ten = record { size = Sizes.Told 10; changed = Changes.Recent 5 }

abbrev pub later_ten : FileVersion
later_ten = record { size = Sizes.Told 10; changed = Changes.Settled 6 }

abbrev pub untold : FileVersion
untold = record { size = Sizes.Untold; changed = Changes.Untold }

-- what follows a try of a download, by how many tries are left, how many octets came, and which file there was before and is now
abbrev pub DownloadsFollowed : Type 0
DownloadsFollowed =
    (follows_download 3 Ends.Done 10 ten (Some ten) ≡ Steps.Done)
    × (follows_download 3 Ends.Done 4 ten (Some ten) ≡ Steps.From 4)
    × (follows_download 3 Ends.Done 4 fresh_ten (Some fresh_ten) ≡ Steps.From 0)
    × (follows_download 3 Ends.Done 12 ten (Some ten) ≡ Steps.Wrong 12)
    × (follows_download 0 Ends.Done 4 ten (Some ten) ≡ Steps.Wrong 4)
    × (follows_download 3 Ends.Done 10 ten (Some later_ten) ≡ Steps.From 0)
    × (follows_download 0 Ends.Done 10 ten (Some later_ten) ≡ Steps.Tell)
    × (follows_download 3 Ends.Done 10 untold (Some untold) ≡ Steps.Done)
    × (follows_download 3 Ends.Broken 4 ten (Some ten) ≡ Steps.From 4)
    × (follows_download 3 Ends.Broken 4 ten (Some later_ten) ≡ Steps.From 0)
    × (follows_download 3 Ends.Broken 4 untold (Some untold) ≡ Steps.Tell)
    × (follows_download 0 Ends.Broken 4 ten (Some ten) ≡ Steps.Tell)
    × (follows_download 3 Ends.Failed 4 ten (Some ten) ≡ Steps.From 4)
    × (follows_download 3 Ends.Unended 10 ten (Some ten) ≡ Steps.Done)
    × (follows_download 3 Ends.Unended 4 ten (Some ten) ≡ Steps.Tell)
    × (follows_download 3 Ends.Unopened 0 ten (Some ten) ≡ Steps.Again)
    × (follows_download 0 Ends.Unopened 0 ten (Some ten) ≡ Steps.Tell)
    × (follows_download 3 Ends.Broken 4 ten None ≡ Steps.Lost)
    × (follows_download 0 Ends.Broken 4 ten None ≡ Steps.Tell)
    × (follows_download 0 Ends.Done 10 ten None ≡ Steps.Lost)

-- how old a change is that was told as second 5, and whose the end of a part is of which eight octets are awaited
abbrev pub PartsJudged : Type 0
PartsJudged =
    (last_change (Some 5) 7 ≡ Changes.Settled 5)
    × (last_change (Some 5) 6 ≡ Changes.Recent 5)
    × (last_change (Some 5) 4 ≡ Changes.Recent 5)
    × (last_change None 7 ≡ Changes.Untold)
    × (part_owner 8 8 false false ≡ Fronts.Own)
    × (part_owner 8 7 false false ≡ Fronts.Lost)
    × (part_owner 8 7 false true ≡ Fronts.Other)
    × (part_owner 8 9 true false ≡ Fronts.Other)
    × (joins Fronts.Own 8 9 ≡ 1)
    × (joins Fronts.Lost 8 9 ≡ 0)
