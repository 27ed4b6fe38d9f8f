-- The values that texts write, where they write one: numbers (RFC 959, section 5.3.2).
use Rattle.std.specs.Prelude.{ℕ, ◌==◌, ◌&&◌, Bool, nat_le, List, length, Option, Some, None}
use Rattle.std.specs.Bool.{then_some}
use Rattle.std.specs.Char.{is_ascii_digit}
use Rattle.std.specs.List.{list_all}
use Rattle.std.specs.Str.Parse.{digits_value}
use Rattle.ftp_endpoint.specs.Number.{digit_limit}
use Rattle.ftp_facts.specs.Fact.{space}

-- what a value leads to, where there is one
abbrev pub and_then : {X Y : Type 0} → Option X → (X → Option Y) → Option Y
and_then None f = None
and_then (Some x) f = f x

-- it is a space
abbrev pub is_space : ℕ → Bool
is_space octet = octet == space

-- decimal digits, at least one and at most so many
abbrev pub are_digits : ℕ → List ℕ → Bool
are_digits most text = nat_le 1 (length text) && nat_le (length text) most && list_all is_ascii_digit text

-- such digits, which write a number in a range
abbrev pub is_number_within : (most low high : ℕ) → List ℕ → Bool
is_number_within most low high text = are_digits most text && nat_le low (digits_value 10 text) && nat_le (digits_value 10 text) high

-- the number that they write
abbrev pub number_within : (most low high : ℕ) → List ℕ → Option ℕ
number_within most low high text = then_some (is_number_within most low high text) (digits_value 10 text)

-- the number that a text is: 1 to 18 digits and nothing else (own choice: the limit)
abbrev pub number_value : List ℕ → Option ℕ
number_value text = then_some (are_digits digit_limit text) (digits_value 10 text)
