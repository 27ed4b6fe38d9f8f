-- How far a server's counts move in one call. Both wrap, so a caller who compares them before and after some calls has to know by how much
-- each call moves them at most.
use Rattle.std.specs.Prelude.{◌≡◌, ◌≤◌, ℕ}
use Rattle.ftp_direct.specs.Run.{moved_on}
use Rattle.ftp_server_model.specs.Failing.{Counts}
use Rattle.ftp_tree.specs.Change.{Failures}

-- a count has moved on, by so many at most
abbrev pub MovesOn : (most before after : ℕ) → Type 0
MovesOn most before after = (more : ℕ) × (more ≤ most) × (after ≡ moved_on more before)

-- of a tree's device so many failures were told at most; how often it strayed never falls
abbrev pub TellsSome : (most : ℕ) → (before after : Failures) → Type 0
TellsSome most before after = MovesOn most before.told after.told × (before.strays ≤ after.strays)

-- in one call a growth counts as refused once at most; the device fails twice at most: at what the call asks for, and at the line that waits
abbrev pub CountsOn : Counts → Counts → Type 0
CountsOn old new = MovesOn 1 old.refusals new.refusals × TellsSome 2 old.failures new.failures
