-- How what a mirror did is counted (own choice).
use Rattle.std.specs.Prelude.{ℕ, ◌+◌, ◌-◌, ◌^◌, min}
use Rattle.tool_files.specs.declared.local.change.Change.{Change}
use Rattle.tool_files.specs.declared.local.change.Change.TheVariants as Changes
use Rattle.tool_mirror.specs.declared.tally.MirrorTotals.{MirrorTotals}
use Rattle.tool_mirror.specs.declared.queue.removal_counts.RemovalCounts.{RemovalCounts}

-- so many more are counted, as far as a count goes
abbrev pub count_on : (count more : ℕ) → ℕ
count_on count more = min (count + more) (2 ^ 64 - 1)

-- nothing was done
abbrev pub no_totals : MirrorTotals
no_totals = record { files = 0; dirs = 0; removed = 0; failed = 0; octets = 0 }

-- a file of so many octets was copied
abbrev pub with_file : MirrorTotals → ℕ → MirrorTotals
with_file tally octets = record tally { files = count_on tally.files 1; octets = count_on tally.octets octets }

-- the target was changed so
abbrev pub with_change : MirrorTotals → Change → MirrorTotals
with_change tally Changes.MakeDir = record tally { dirs = count_on tally.dirs 1 }
with_change tally Changes.RemoveFile = record tally { removed = count_on tally.removed 1 }
with_change tally Changes.RemoveDir = record tally { removed = count_on tally.removed 1 }

-- something was not done
abbrev pub with_failed : MirrorTotals → MirrorTotals
with_failed tally = record tally { failed = count_on tally.failed 1 }

-- the target has so many entries more, and so many more of them would be removed
abbrev pub with_held : RemovalCounts → ℕ → RemovalCounts
with_held counts count = record counts { held = count_on counts.held count }

abbrev pub with_removed : RemovalCounts → ℕ → RemovalCounts
with_removed counts count = record counts { removed = count_on counts.removed count }
