-- When the names beside a path are listed (own choice).
use Rattle.std.specs.Prelude.{ℕ, Bool, ◌*◌, nat_lt}

-- a directory has so few names that listing them costs little
abbrev pub are_few : ℕ → Bool
are_few names = nat_lt names 65

-- of a directory that has so many names, more than half as many were changed since it was listed
abbrev pub are_many_changed : ℕ → ℕ → Bool
are_many_changed names changes = nat_lt names (2 * changes)
