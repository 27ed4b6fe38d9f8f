-- Counts of octets, of a file and of a wire.
use Rattle.std.specs.Prelude.{ℕ, ◌+◌, ◌-◌, ◌^◌, min}

-- a count of octets, which stops at the greatest number of 64 bits
abbrev pub count_on : ℕ → ℕ → ℕ
count_on n more = min (n + more) (2 ^ 64 - 1)

abbrev pub next : ℕ → ℕ
next n = count_on n 1
