-- When a transfer began, for the log.
use Rattle.std.specs.Prelude.{ℕ, nat_lt, Option, Some, None, if◌then◌else◌}

-- a code that begins with 1 says that a transfer begins, and that another reply follows (RFC 959, section 4.2.1)
abbrev pub begun_by : (code now : ℕ) → Option ℕ
begun_by code now = if nat_lt code 200 then Some now else None

-- where the line has an answer yet
abbrev pub begun_at : (code : Option ℕ) → (now : ℕ) → Option ℕ
begun_at (Some code) now = begun_by code now
begun_at None now = None
