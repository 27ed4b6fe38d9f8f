-- The code that three digits are.
use Rattle.std.specs.Prelude.{ℕ, ◌+◌, ◌*◌, ◌-◌, Option, Some, None, if◌then◌else◌}
use Rattle.std.specs.Char.{is_ascii_digit}

-- the number that an octet is as a digit, if it is one
abbrev pub digit_in : Option ℕ → Option ℕ
digit_in None = None
digit_in (Some octet) = if is_ascii_digit octet then Some (octet - 48) else None

-- the number that three digits are, where each is one
abbrev pub of_three : Option ℕ → Option ℕ → Option ℕ → Option ℕ
of_three (Some a) (Some b) (Some c) = Some (100 * a + (10 * b + c))
of_three None b c = None
of_three (Some a) None c = None
of_three (Some a) (Some b) None = None
