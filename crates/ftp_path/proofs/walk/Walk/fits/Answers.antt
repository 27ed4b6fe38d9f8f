use Rattle.std.proofs.Common.{ap, arith}
use Rattle.std.proofs.lemmas.Grind.{common_steps}
use Rattle.ftp_path.specs.Path.{fits}
use Rattle.ftp_path.proofs.PathLemmas.{fits-kept}
use Rattle.ftp_path.proofs.walk.Walk.fits.Goals as goal

pub returns-then-are_short : goal.returns-then-are_short
returns-then-are_short c =
    let kept = fits-kept c.self.inside.octets.items c.self.invariant in
    let seen = ap fits c.self.view_is in
    grind (arith, common_steps)

pub returns-else-are_short : goal.returns-else-are_short
returns-else-are_short c =
    let kept = fits-kept c.self.inside.octets.items c.self.invariant in
    let seen = ap fits c.self.view_is in
    grind (arith, common_steps)
