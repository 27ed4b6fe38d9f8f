-- Until when several things are to be done that are asked one after another (own choice).
use Rattle.std.specs.Prelude.{ℕ, Option, Some, None}

-- until the moment of the first, where one is noted, and else until its own
abbrev pub first_until : (noted own : Option ℕ) → Option ℕ
first_until (Some first) own = Some first
first_until None own = own
