-- The octet that a system hides as urgent data (RFC 854; RFC 959, section 4.1.3).
use Rattle.std.specs.Prelude.{ℕ, ◌==◌, Option, Some, None, if◌then◌else◌}

-- the octet that urgent data hides after another one: LF after CR, the data mark after IAC, and IAC after IAC IP
abbrev pub hidden : ℕ → Option ℕ
hidden last = if last == 13 then Some 10 else (if last == 255 then Some 242 else (if last == 244 then Some 255 else None))
