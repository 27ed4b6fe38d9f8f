use Rattle.std.proofs.Common.{◌≡◌}
use Rattle.ftp_secret.specs.Crypt.{after}
use Rattle.ftp_secret.specs.Hashing.{octets_of, sequence}
use Rattle.ftp_secret.proofs.crypt.after.Given as goal

abbrev pub invariant-rounds : goal.invariant-rounds
invariant-rounds l = octets_of l.last ≡ after l.method (sequence l.p) (sequence l.s) (octets_of l.fn.a) l.number
