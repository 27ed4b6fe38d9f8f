-- A test counted as one or none.
use Rattle.std.proofs.Common.{ℕ, ◌+◌, ◌≤◌, Bool, true, false, ◌||◌, arith}
use Rattle.std.specs.Prelude.{if◌then◌else◌}

abbrev pub one_if : Bool → ℕ
one_if holds = if holds then 1 else 0

pub one_close : (closing standing : Bool) → one_if (closing || standing) ≤ one_if closing + one_if standing
one_close true true = omega arith
one_close true false = omega arith
one_close false true = omega arith
one_close false false = omega arith
