-- What is left of a limit of time, in milliseconds (own choice). A limit of 0 seconds is none.
use Rattle.std.specs.Prelude.{ℕ, zero, suc, ◌-◌, ◌*◌, ◌==◌, min, nat_le, nat_lt, Option, Some, None, if◌then◌else◌}
use Rattle.tool_polling.specs.declared.session_timeouts.TimeoutReason.{TimeoutReason}
use Rattle.tool_polling.specs.declared.session_timeouts.Term.{Term}

-- what is left, in milliseconds, of a limit of so many seconds; of none there is no term
abbrev pub term_after : ℕ → ℕ → TimeoutReason → Option Term
term_after zero spent over = None
term_after (suc limit) spent over = Some (record { left = suc limit * 1000 - spent; over = over })

-- for how many milliseconds a limit of so many seconds is passed, if it is
abbrev pub passed_by : ℕ → ℕ → Option ℕ
passed_by zero spent = None
passed_by (suc limit) spent = if nat_lt spent (suc limit * 1000) then None else Some (spent - suc limit * 1000)

-- the one of two that ends sooner
abbrev pub sooner_of : Option Term → Option Term → Option Term
sooner_of (Some one) (Some other) = if nat_le one.left other.left then Some one else Some other
sooner_of (Some one) None = Some one
sooner_of None other = other

-- the shorter of two limits in seconds, of which 0 is none
abbrev pub stricter : ℕ → ℕ → ℕ
stricter one other = if one == 0 then other else (if other == 0 then one else min one other)
