-- How long one who asks waits for its server, in milliseconds (own choice).
use Rattle.std.specs.Prelude.{ℕ, zero, suc, ◌+◌, ◌-◌, ◌*◌, ◌^◌, min, Option, Some, None}
use Rattle.tool_sockets.specs.declared.last_activity.LastActivity.{LastActivity}
use Rattle.tool_sockets.specs.declared.last_activity.LastActivity.TheVariants as Activities

-- when the last activity was
abbrev pub activity_moment : LastActivity → ℕ
activity_moment (Activities.Done moment) = moment
activity_moment (Activities.Line moment) = moment

-- the last activity behind a line that came now: the first line behind something else counts, and no line behind a line
abbrev pub activity_behind_line : LastActivity → (now : ℕ) → LastActivity
activity_behind_line (Activities.Done moment) now = Activities.Line now
activity_behind_line (Activities.Line moment) now = Activities.Line moment

-- a limit of so many seconds; 0 is none
abbrev pub limit_millis : (seconds : ℕ) → Option ℕ
limit_millis zero = None
limit_millis (suc seconds) = Some (suc seconds * 1000)

-- until when silence may last behind the last activity, at most 2^64 - 1
abbrev pub silent_until : (limit : Option ℕ) → (last : ℕ) → Option ℕ
silent_until None last = None
silent_until (Some limit) last = Some (min (last + limit) (2 ^ 64 - 1))

-- the sooner of two moments, where there are two
abbrev pub sooner : (one other : Option ℕ) → Option ℕ
sooner (Some one) (Some other) = Some (min one other)
sooner (Some one) None = Some one
sooner None other = other

-- what is left now until a moment
abbrev pub millis_left : (until : Option ℕ) → (now : ℕ) → Option ℕ
millis_left None now = None
millis_left (Some until) now = Some (until - now)
