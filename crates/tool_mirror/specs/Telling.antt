-- What is told of a path in a line of JSON (own choice).
use Rattle.std.specs.Prelude.{ℕ, ◌==◌, List, length, codes, if◌then◌else◌}
use Rattle.tool_listing.specs.entries.Json.{action_json}

-- a path as it is told: that of the root is a point
abbrev pub told_path : List ℕ → List ℕ
told_path below = if length below == 0 then codes "." else below

-- the line of what is done of a path
abbrev pub action_line : (what below : List ℕ) → List ℕ
action_line what below = action_json what (told_path below)
