use Rattle.std.proofs.Common.{[], refl, sym, ap, subst, ◌∙◌}
use Rattle.ftp_path.specs.Kept.{IsKept, names_of}
use Rattle.ftp_path.proofs.PathLemmas.{IsKept-none, names_of-joined}
use Rattle.ftp_path.proofs.path.Path.root.Goals as goal

pub invariant_of-result : goal.invariant_of-result
invariant_of-result g c = subst IsKept (sym c.new.ensures.items) IsKept-none

pub returns : goal.returns
returns g c = ap names_of c.new.ensures.items ∙ names_of-joined [] refl
