-- The ports that passive data connections are listened at (own choice; RFC 959, section 3.3, leaves it to the server).
use Rattle.std.specs.Prelude.{ℕ, suc, Bool, false, ◌&&◌, nat_le, nat_lt, Option, Some, None, if◌then◌else◌}

-- a port is given up that nobody opened for 10 seconds, where another was wanted within the last 10 and not had
abbrev pub is_given_up : ℕ → Option ℕ → Bool
is_given_up held None = false
is_given_up held (Some wanted) = nat_lt wanted 10000 && nat_le 10000 held

-- the port after one, in turn among those from `first` to `last`
abbrev pub next_port : ℕ → ℕ → ℕ → ℕ
next_port first last port = if nat_le first port then (if nat_le last port then first else suc port) else first
