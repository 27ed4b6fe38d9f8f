use Rattle.std.proofs.Common.{◌≡◌, ◌-◌, ◌≤◌, false, length, take}
use Rattle.std.specs.List.{AllByRecursion}
use Rattle.ftp_repr.specs.Runs.{is_changed}
use Rattle.ftp_settings.specs.declared.representation.Kind.TheVariants.{Ascii}
use Rattle.ftp_settings.specs.declared.representation.Structure.TheVariants.{File}
use Rattle.ftp_repr.proofs.run.before_pair.Given as goal

abbrev pub invariant-loop-at : goal.invariant-loop-at
invariant-loop-at l = record {
  within : l.at ≤ length l.piece;
  passed : AllByRecursion (λ c. is_changed Ascii File c ≡ false) (take l.at l.piece);
}

abbrev pub decreases-loop-at : goal.decreases-loop-at
decreases-loop-at l = length l.piece - l.at
