-- How many control connections there are, and what each may move (own choice).
use Rattle.std.specs.Prelude.{ℕ, ◌/◌, ◌==◌, max, min, if◌then◌else◌}

-- how many are wanted: at most eight
abbrev pub connections_of : ℕ → ℕ
connections_of at_once = min at_once 8

-- the part that each of so many has of the octets that may go in a second: one at least; 0 is without a limit
abbrev pub part_of : (rate connections : ℕ) → ℕ
part_of rate connections = if rate == 0 then 0 else max (rate / max connections 1) 1
