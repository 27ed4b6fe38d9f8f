-- Decimal numbers, as arguments and replies have them (RFC 959, section 5.3.2).
use Rattle.std.specs.Prelude.{◌≡◌, ◌<◌, ◌≤◌, ◌^◌, ℕ, List, length, take, drop}
use Rattle.std.specs.Char.{is_ascii_digit}
use Rattle.std.specs.List.{prefix_len}
use Rattle.std.specs.Str.Parse.{IsNumeral, digits_value}

-- the octets between numbers and around them: `,`, `.`, `:`, `(` and `)`
abbrev pub comma : ℕ
comma = 44

abbrev pub point : ℕ
point = 46

abbrev pub colon : ℕ
colon = 58

abbrev pub opening : ℕ
opening = 40

abbrev pub closing : ℕ
closing = 41

-- the most digits that a number has (own choice)
abbrev pub digit_limit : ℕ
digit_limit = 18

-- a number of at most so many digits
abbrev pub IsShort : ℕ → Type 0
IsShort n = n < 10 ^ digit_limit

-- a number: 1 to 18 decimal digits, leading zeros too
abbrev pub IsNumber : List ℕ → Type 0
IsNumber text = IsNumeral 10 text × (length text ≤ digit_limit)

-- an octet's number: one to three decimal digits, 0 to 255
abbrev pub IsOctet : List ℕ → Type 0
IsOctet text = IsNumeral 10 text × (length text ≤ 3) × (digits_value 10 text ≤ 255)

-- a port: a number from 1 to 65535
abbrev pub IsPort : List ℕ → Type 0
IsPort text = IsNumber text × (1 ≤ digits_value 10 text) × (digits_value 10 text ≤ 65535)

-- the text says this number
abbrev pub SaysNumber : List ℕ → ℕ → Type 0
SaysNumber text n = IsNumber text × (n ≡ digits_value 10 text)

-- the text says this octet's number
abbrev pub SaysOctet : List ℕ → ℕ → Type 0
SaysOctet text n = IsOctet text × (n ≡ digits_value 10 text)

-- the text says this port
abbrev pub SaysPort : List ℕ → ℕ → Type 0
SaysPort text n = IsPort text × (n ≡ digits_value 10 text)

-- the decimal digits that a text begins with, as many as stand there
abbrev pub front_digits : List ℕ → List ℕ
front_digits text = take (prefix_len is_ascii_digit text) text

-- what is behind them
abbrev pub behind_digits : List ℕ → List ℕ
behind_digits text = drop (prefix_len is_ascii_digit text) text
