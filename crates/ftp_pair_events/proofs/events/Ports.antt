-- Ports are counted round.
use Rattle.std.specs.Prelude.{◌≡◌, ◌+◌, ◌%◌, ℕ}
use Rattle.std.proofs.Math.Nat.{mod-add-mod}
use Rattle.laws_world.specs.World.{next_listen}

-- one more than the rest of a count is the rest of one more than the count
pub next_is : (k : ℕ) → (k % 16384 + 1) % 16384 ≡ next_listen k
next_is k = mod-add-mod k 16384 1
