-- What the values of a client's options say (own choice).
use Rattle.std.specs.Prelude.{◌≡◌, ◌<◌, ◌-◌, ◌^◌, ⊤, ℕ, List, Option, Some, None}
use Rattle.tool_command.specs.Amount.{SaysAmount}
use Rattle.tool_command.specs.Numbers.{SaysBelow}

-- seconds for all that is asked: without a word, and where it says 0, there is no limit
abbrev pub SaysMaxTime : Option (List ℕ) → Option ℕ → Type 0
SaysMaxTime None None = ⊤
SaysMaxTime None (Some seconds) = ⊥
SaysMaxTime (Some word) None = SaysBelow (2 ^ 32) word 0
SaysMaxTime (Some word) (Some seconds) = SaysBelow (2 ^ 32) word seconds × (0 < seconds)

-- the most octets of a file: without a word as many as there can be
abbrev pub SaysOctetLimit : Option (List ℕ) → ℕ → Type 0
SaysOctetLimit None most = most ≡ 2 ^ 64 - 1
SaysOctetLimit (Some word) most = SaysBelow (2 ^ 64) word most

-- octets a second: without a word 0, which is no limit
abbrev pub SaysRate : Option (List ℕ) → ℕ → Type 0
SaysRate None rate = rate ≡ 0
SaysRate (Some word) rate = SaysAmount word rate
