-- Which moment a file of a folder has.
use Rattle.std.specs.Prelude.{ℕ, ℤ, pos, negsuc, min}

-- the last second of a moment: the end of the year 9999
abbrev pub last_second : ℕ
last_second = 253_402_300_799

-- of a second from the start of 1970 on, or before it, the nearest moment of the profile (own choice; RFC 3659, section 2.3, has years of four digits)
abbrev pub nearest : ℤ → ℕ
nearest (pos second) = min second last_second
nearest (negsuc before) = 0
