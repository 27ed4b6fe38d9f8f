-- The exit statuses of the programs (own choice).
use Rattle.std.specs.Prelude.{ℕ, nat_lt, if◌then◌else◌}
use Rattle.tool_terminal.specs.declared.status.Status.{Status}
use Rattle.tool_terminal.specs.declared.status.Status.TheVariants.{Done, Refused, BadWords, Failed}

-- the number with which the process ends
abbrev pub number : Status → ℕ
number Done = 0
number Refused = 1
number BadWords = 2
number Failed = 3

-- the worse of two has the greater number
abbrev pub worse : Status → Status → Status
worse one other = if nat_lt (number one) (number other) then other else one
