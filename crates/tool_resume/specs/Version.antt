-- Which file a server has at a path, as far as it tells, and when what came of a download is of one file alone (own choice). Sizes are those of SIZE,
-- in type I, and moments those of MDTM, in seconds from 1970 (RFC 3659, sections 3 and 4).
use Rattle.std.specs.Prelude.{ℕ, ◌+◌, ◌==◌, ◌&&◌, Bool, true, false, not, nat_le, nat_lt, Option, Some, None, if◌then◌else◌}
use Rattle.tool_resume.specs.declared.version.Size.{Size}
use Rattle.tool_resume.specs.declared.version.Size.TheVariants as Sizes
use Rattle.tool_resume.specs.declared.version.LastChange.{LastChange}
use Rattle.tool_resume.specs.declared.version.LastChange.TheVariants as Changes
use Rattle.tool_resume.specs.declared.version.FileVersion.{FileVersion}
use Rattle.tool_resume.specs.declared.version.Arrival.{Arrival}
use Rattle.tool_resume.specs.declared.version.Arrival.TheVariants as Arrivals

-- the number was told before, and is told again
abbrev pub is_told_again : Option ℕ → Option ℕ → Bool
is_told_again (Some before) (Some now) = before == now
is_told_again before now = false

-- the number is told again, or none is told, as before
abbrev pub is_as_before : Option ℕ → Option ℕ → Bool
is_as_before None None = true
is_as_before before now = is_told_again before now

-- the size, where the server tells it
abbrev pub size_told : Size → Option ℕ
size_told (Sizes.Told total) = Some total
size_told size = None

-- a change behind the time at which the server was asked has another moment than this one: it was asked two seconds behind it, or later
abbrev pub is_settled : (moment asked : ℕ) → Bool
is_settled moment asked = nat_le (moment + 2) asked

-- when a file was changed last of which this moment is told, where it was asked then
abbrev pub last_change : Option ℕ → ℕ → LastChange
last_change (Some moment) asked = if is_settled moment asked then Changes.Settled moment else Changes.Recent moment
last_change None asked = Changes.Untold

-- the moment, where the server tells it
abbrev pub moment_told : LastChange → Option ℕ
moment_told (Changes.Recent moment) = Some moment
moment_told (Changes.Settled moment) = Some moment
moment_told Changes.Untold = None

-- the moment, where a later change has another one
abbrev pub settled_moment : LastChange → Option ℕ
settled_moment (Changes.Settled moment) = Some moment
settled_moment (Changes.Recent moment) = None
settled_moment Changes.Untold = None

-- the server has the file of before, as far as it tells: its size and its moment are those of before
abbrev pub stays : FileVersion → FileVersion → Bool
stays before now = is_as_before (size_told before.size) (size_told now.size) && is_as_before (moment_told before.changed) (moment_told now.changed)

-- the file is seen to be the one of before: its size and its moment were told, and are told again, and a change in between had another moment
abbrev pub is_seen_again : FileVersion → FileVersion → Bool
is_seen_again before now = is_told_again (size_told before.size) (size_told now.size) && is_told_again (settled_moment before.changed) (moment_told now.changed)

-- so many octets are not more than the file has, where its size is told
abbrev pub has_so_many : Option ℕ → ℕ → Bool
has_so_many (Some total) came = nat_le came total
has_so_many None came = false

-- a download goes on after what came, where the file is seen to be the one of before; else it begins anew
abbrev pub resumes : FileVersion → FileVersion → ℕ → ℕ
resumes before now came = if is_seen_again before now && has_so_many (size_told now.size) came then came else 0

-- it is told that the file has more octets than the limit
abbrev pub is_too_large : ℕ → Size → Bool
is_too_large limit (Sizes.Told total) = nat_lt limit total
is_too_large limit size = false

-- where no size is told
abbrev pub unknown_if : Bool → Arrival
unknown_if true = Arrivals.Unknown
unknown_if false = Arrivals.Changed

-- how so many octets stand to the size that is told last, of the file of before or not
abbrev pub arrived_of : ℕ → Bool → Size → ℕ → Arrival
arrived_of limit same (Sizes.Told total) came =
    if nat_lt limit total then Arrivals.TooLarge total
    else (if not same then Arrivals.Changed else (if came == total then Arrivals.Whole else Arrivals.Wrong total))
arrived_of limit same Sizes.Past came = Arrivals.Past
arrived_of limit same Sizes.Untold came = unknown_if same
arrived_of limit same Sizes.Strange came = unknown_if same
arrived_of limit same Sizes.Uncounted came = unknown_if same

-- how a download stands that the server says is done, of which so many octets came, where the server told this of the file before they came, and this
-- after the last of them
abbrev pub arrived : ℕ → FileVersion → FileVersion → ℕ → Arrival
arrived limit before now came = arrived_of limit (stays before now) now.size came
