use Rattle.ftp_path.proofs.PathLemmas.{kept-le}
use Rattle.ftp_path.proofs.path.Path.start.Goals as goal

pub at-requires-clause-within : goal.at-requires-clause-within
at-requires-clause-within g c = rw c.as_slice.ensures.value (kept-le c.self.inside.octets.items c.self.invariant)

pub returns-clause-within : goal.returns-clause-within
returns-clause-within g c =
    let text = c.self.inside.octets.items in
    rw (c.at.ensures, c.as_slice.ensures.value, c.self.invariant.joins.whole) (kept-le text c.self.invariant)
