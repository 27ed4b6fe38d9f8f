-- How fast a transfer is, and how much of it is left (own choice).
use Rattle.std.specs.Prelude.{ℕ, ◌+◌, ◌-◌, ◌*◌, ◌/◌, ◌==◌, Option, Some, None, option_map, if◌then◌else◌}
use Rattle.tool_terminal.specs.declared.progress.progress_line.Span.{Span}
use Rattle.tool_terminal.specs.declared.progress.progress_line.Pace.{Pace}
use Rattle.tool_terminal.specs.declared.progress.progress_line.Remaining.{Remaining}

-- octets a second, rounded down; none before the first millisecond
abbrev pub per_second : (moved millis : ℕ) → ℕ
per_second moved millis = if millis == 0 then 0 else moved * 1000 / millis

-- hundredths of a file, rounded down; a file without an octet is all there
abbrev pub hundredths : (count total : ℕ) → ℕ
hundredths count total = if total == 0 then 100 else count * 100 / total

-- seconds that the rest takes, rounded down, where anything moves
abbrev pub seconds_left : (count total rate : ℕ) → Option ℕ
seconds_left count total rate = if rate == 0 then None else Some ((total - count) / rate)

-- what is left of a file of which so many octets are there
abbrev pub rest_of_file : (count rate total : ℕ) → Remaining
rest_of_file count rate total = record { total = total; percent = hundredths count total; seconds = seconds_left count total rate }

-- how far a transfer is that moved so many octets in so many milliseconds: those before its first octet are there too
abbrev pub pace_of : Span → (moved millis : ℕ) → Pace
pace_of span moved millis =
    let rate = per_second moved millis in
    let count = span.start + moved in
    record { count = count; per_second = rate; rest = option_map (rest_of_file count rate) span.total }
