-- What is known of lines that could not be written (own choice).
use Rattle.std.specs.Prelude.{ℕ, ◌+◌, ◌==◌, ◌&&◌, ◌||◌, Bool, true, false, min, not, ◌^◌, ◌-◌, if◌then◌else◌}
use Rattle.tool_log.specs.declared.lost.Lost.{Lost}

-- no line was lost
abbrev pub nothing : Lost
nothing = record { lines = 0; is_torn = false }

-- of a line of so many octets so many were written: one that was not written whole is lost, and the next one begins on a line of its own
abbrev pub lost_after : Lost → (length written : ℕ) → Lost
lost_after lost length written =
    if written == length then nothing
    else record { lines = min (lost.lines + 1) (2 ^ 64 - 1); is_torn = lost.is_torn || not (written == 0) }
