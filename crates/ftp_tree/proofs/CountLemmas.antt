-- The count of a device's failures, as it moves on, and that of its strays, which never falls.
use Rattle.std.proofs.Common.{◌≡◌, ◌≢◌, ◌≤◌, ℕ, arith}
use Rattle.ftp_tree.specs.Change.{Failures, next_count}

-- a count that moves on is another one
pub next_count-moves : (count : ℕ) → count ≢ next_count count
next_count-moves count same = omega arith

-- in the first of two calls without a stray there is none
pub stray-first : (a b c : Failures) → a.strays ≤ b.strays → b.strays ≤ c.strays → c.strays ≡ a.strays → b.strays ≡ a.strays
stray-first a b c first second same = omega (arith, first, second, same)

-- nor in the second
pub stray-second : (a b c : Failures) → a.strays ≤ b.strays → b.strays ≤ c.strays → c.strays ≡ a.strays → c.strays ≡ b.strays
stray-second a b c first second same = omega (arith, first, second, same)
