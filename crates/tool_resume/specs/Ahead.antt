-- Which downloads are asked ahead of their turn (own choice).
use Rattle.std.specs.Prelude.{ℕ, ◌==◌, ◌&&◌, not, Bool}

-- one is: what comes of it goes to a part of a file, so that none is held, nothing came of it yet, and it was not asked ahead before
abbrev pub is_foreseen : (is_ahead has_part : Bool) → (came : ℕ) → Bool
is_foreseen is_ahead has_part came = not is_ahead && has_part && came == 0
