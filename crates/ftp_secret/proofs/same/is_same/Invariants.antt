use Rattle.std.proofs.Common.{◌≡◌}
use Rattle.ftp_secret.proofs.Sameness.{AreSameSoFar}
use Rattle.ftp_secret.proofs.same.is_same.Given as goal

abbrev pub invariant-octets : goal.invariant-octets
invariant-octets l = record {
  found : l.differs ≡ 0 → AreSameSoFar l.right l.given l.i;
  kept : AreSameSoFar l.right l.given l.i → l.differs ≡ 0;
}
