-- A download over a control connection of its own: on which terms, and what becomes of its part (own choice).
use Rattle.std.specs.Prelude.{ℕ, ◌==◌, ◌||◌, Bool, true, false, List, [], ◌∷◌, nat_eq, if◌then◌else◌}
use Rattle.std.specs.Cmp.Lexicographic.{pointwise}
use Rattle.tool_resume.specs.Held.{limit_held}
use Rattle.tool_resume.specs.declared.known_file.KnownMoment.{KnownMoment}
use Rattle.tool_resume.specs.declared.known_file.KnownMoment.TheVariants as Moments
use Rattle.tool_job.specs.declared.single.download.PartHandling.{PartHandling}
use Rattle.tool_job.specs.declared.single.download.PartHandling.TheVariants as Parts
use Rattle.tool_job.specs.declared.single.part.PartEnd.{PartEnd}
use Rattle.tool_job.specs.declared.single.part.PartEnd.TheVariants as Ends

-- the word for standard output: a hyphen alone
abbrev pub is_output : List ℕ → Bool
is_output file = pointwise nat_eq file (45 ∷ [])

-- the most octets that come of a file: to standard output no more than are held in memory
abbrev pub limit_by : (to_output : Bool) → ℕ → ℕ
limit_by to_output limit = if to_output then limit_held limit else limit

-- the moment is asked for where it is wanted, or tells beside the size whether the file is the same still
abbrev pub moment_wanted : (is_wanted counts : Bool) → KnownMoment
moment_wanted is_wanted counts = if is_wanted || counts then Moments.Untold else Moments.Unasked

-- a part that an earlier run left is taken up
abbrev pub is_continued : PartHandling → Bool
is_continued Parts.Continued = true
is_continued parts = false

-- a note stands beside the part
abbrev pub is_noted : PartHandling → Bool
is_noted Parts.Dropped = false
is_noted parts = true

-- what becomes of the part of a download that is not whole, with so many octets
abbrev pub part_end : PartHandling → ℕ → PartEnd
part_end Parts.Dropped count = Ends.Removed
part_end Parts.Kept count = if count == 0 then Ends.Removed else Ends.Kept
part_end Parts.Continued count = if count == 0 then Ends.Removed else Ends.Kept
