use Rattle.std.proofs.Common.{[], refl, sym, ap, subst, ◌∙◌}
use Rattle.ftp_path.specs.Kept.{IsJoined, names_of}
use Rattle.ftp_path.proofs.PathLemmas.{IsJoined-joined, names_of-joined}
use Rattle.ftp_path.proofs.walk.Walk.at_root.Goals as goal

pub invariant_of-result : goal.invariant_of-result
invariant_of-result c = subst IsJoined (sym c.new.ensures) (IsJoined-joined [] refl)

pub returns : goal.returns
returns c = ap names_of c.new.ensures ∙ names_of-joined [] refl
