-- What a mirror knows of a file, and asks of one that LIST tells (RFC 959, section 4.1.3, leaves the form of its lines open; own choice).
use Rattle.std.specs.Prelude.{ℕ, ◌==◌, Bool, true, false, Option, Some, None, nat_lt, if◌then◌else◌}
use Rattle.tool_mirror_plan.specs.declared.actions.CopyDirection.{CopyDirection}
use Rattle.tool_mirror_plan.specs.declared.actions.CopyDirection.TheVariants as Ways

-- the moment of a file is asked for: where the file may be fetched, since of it LIST tells the day at most, and else where LIST tells none
abbrev pub asks_moment : CopyDirection → Option ℕ → Bool
asks_moment Ways.Down moment = true
asks_moment Ways.Up None = true
asks_moment Ways.Up (Some moment) = false

-- the second by which a file here counts as changed last: its own; of one that is sent, where its own lies in the future, that of the last change of its
-- inode, which no program sets
abbrev pub changed_at : CopyDirection → (now moment touched : ℕ) → ℕ
changed_at Ways.Down now moment touched = moment
changed_at Ways.Up now moment touched = if nat_lt now moment then touched else moment

-- two sizes are the same, or neither is known
abbrev pub is_alike : Option ℕ → Option ℕ → Bool
is_alike (Some one) (Some other) = one == other
is_alike (Some one) None = false
is_alike None (Some other) = false
is_alike None None = true
