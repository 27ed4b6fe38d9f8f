use Rattle.std.proofs.Common.{arith}
use Rattle.ftp_secret.proofs.Sameness.{all_same, one_found, one_kept}
use Rattle.ftp_secret.proofs.same.is_same.Goals as goal

pub octets-preserved : goal.octets-preserved
octets-preserved c = record {
  found = one_found c.args.right.now c.args.given.now c.octets.i c.octets.differs c.octet_at.result c.octets.invariant.found c.octet_at.ensures;
  kept = one_kept c.args.right.now c.args.given.now c.octets.i c.octets.differs c.octet_at.result c.octets.invariant.kept c.octet_at.ensures;
}

pub returns : goal.returns
returns c =
    all_same c.args.right.now c.args.given.now c.octets.i c.octets.differs (omega arith) c.octets.invariant.found c.octets.invariant.kept
