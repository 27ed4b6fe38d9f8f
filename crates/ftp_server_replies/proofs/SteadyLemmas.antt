-- Calls in which a device told no failure.
use Rattle.std.proofs.Common.{◌∙◌, arith}
use Rattle.ftp_tree.specs.Change.{Failures, IsSteady}

-- two calls that tell no failure tell none
pub steady_twice : (before between after : Failures) → IsSteady before between → IsSteady between after → IsSteady before after
steady_twice before between after first next = (next.0 ∙ first.0, omega (arith, first.1, next.1))
