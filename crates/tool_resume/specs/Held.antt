-- How many octets of a file are held in memory, where none go to a file or come of one as they go (own choice).
use Rattle.std.specs.Prelude.{ℕ, ◌-◌, ◌^◌, nat_eq, if◌then◌else◌}

-- as many as are said, and 1 GiB where none are
abbrev pub limit_held : ℕ → ℕ
limit_held limit = if nat_eq limit (2 ^ 64 - 1) then 1073741824 else limit
