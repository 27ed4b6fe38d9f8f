-- What came of a download, where the last octets of an earlier run are awaited once more (own choice).
use Rattle.std.specs.Prelude.{ℕ, ◌-◌, ◌==◌, if◌then◌else◌}

-- from which octet on the next ones are asked for: from those that are awaited
abbrev pub start_of : (count awaited : ℕ) → ℕ
start_of count awaited = count - awaited

-- how many are seen to be the file's: none as long as any are awaited
abbrev pub seen_of : (count awaited : ℕ) → ℕ
seen_of count awaited = if awaited == 0 then count else 0
