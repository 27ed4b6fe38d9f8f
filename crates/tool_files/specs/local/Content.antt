-- How much of a file is read where a limit stands (own choice).
use Rattle.std.specs.Prelude.{ℕ, ◌+◌, ◌-◌, ◌^◌, nat_lt, if◌then◌else◌}

-- the most that a count can be
abbrev pub most_counted : ℕ
most_counted = 2 ^ 64 - 1

-- so many octets from one of them on are the rest up to the limit, and one more by which it is seen that there are more
abbrev pub room_for : ℕ → ℕ → ℕ
room_for from limit = if nat_lt (limit - from) most_counted then limit - from + 1 else most_counted
