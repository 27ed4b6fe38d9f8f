-- How long a data connection waits before it moves more (own choice).
use Rattle.std.specs.Prelude.{ℕ, ◌-◌, ◌*◌, ◌/◌, ◌==◌, min, nat_lt, if◌then◌else◌}

-- the milliseconds that so many octets take, at so many a second, rounded down; none without a limit
abbrev pub due : (rate moved : ℕ) → ℕ
due rate moved = if rate == 0 then 0 else moved * 1000 / rate

-- for how many nothing is moved, where so many octets went in so many milliseconds: until they are due, and a second at most
abbrev pub pause_of : (rate moved millis : ℕ) → ℕ
pause_of rate moved millis = min (due rate moved - millis) 1000

-- the most octets that are moved at once: those of a quarter of a second, and one at least
abbrev pub piece_of : ℕ → ℕ
piece_of rate = if nat_lt rate 4 then 1 else rate / 4
