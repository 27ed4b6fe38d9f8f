use Rattle.std.proofs.Common.{ℕ, ◌+◌, ◌-◌, ◌*◌, ◌≤◌, List, ◌++◌, length, take}
use Rattle.ftp_mode.specs.Deframing.{owed}
use Rattle.tool_codec.specs.Receiving.{StandsAfter}
use Rattle.ftp_settings.specs.declared.representation.Representation.{Representation}
use Rattle.tool_codec.proofs.Hearing.{Hearing}
use Rattle.tool_codec.proofs.receiving.Receiving.hear.Given as goal

abbrev pub invariant-loop-step : goal.invariant-loop-step
invariant-loop-step g l = record {
  within : l.at ≤ length l.piece;
  hears : (r : Representation) (wire written : List ℕ) → StandsAfter r wire written l.fn.self → Hearing r (wire ++ take l.at l.piece) written l.self;
}

abbrev pub decreases-loop-step : goal.decreases-loop-step
decreases-loop-step g l = 3 * (length l.piece - l.at) + length (owed l.self.deframer)
