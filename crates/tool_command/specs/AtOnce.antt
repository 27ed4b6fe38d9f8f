-- How many clients the words of `serve` ask to be served at once (own choice).
use Rattle.std.specs.Prelude.{◌≡◌, ◌≤◌, ◌-◌, ◌^◌, max, ℕ, List, Option, Some, None}
use Rattle.tool_command.specs.Numbers.{SaysBelow}
use Rattle.tool_serve.specs.declared.sessions.SessionCount.{SessionCount}
use Rattle.tool_serve.specs.declared.sessions.SessionCount.TheVariants.{Count, Forever}

-- a number of clients, from 1 to 64
abbrev pub SaysCount : List ℕ → ℕ → Type 0
SaysCount word count = SaysBelow (2 ^ 32) word count × (1 ≤ count) × (count ≤ 64)

-- where no word says it: one where only so many sessions are served, and else 32
abbrev pub unsaid_at_once : SessionCount → ℕ
unsaid_at_once (Count n) = 1
unsaid_at_once Forever = 32

-- how many are served at once is what its word says, or what holds without one
abbrev pub SaysAtOnce : Option (List ℕ) → SessionCount → ℕ → Type 0
SaysAtOnce None sessions count = count ≡ unsaid_at_once sessions
SaysAtOnce (Some word) sessions count = SaysCount word count

-- where no word says it: one less than in all, so that nobody has all, but one at least
abbrev pub unsaid_per_host : ℕ → ℕ
unsaid_per_host at_once = max 1 (at_once - 1)

-- how many of one address is what its word says, or what holds without one
abbrev pub SaysPerHost : Option (List ℕ) → ℕ → ℕ → Type 0
SaysPerHost None at_once count = count ≡ unsaid_per_host at_once
SaysPerHost (Some word) at_once count = SaysCount word count
