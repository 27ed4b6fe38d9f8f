use Rattle.ftp_secret.specs.Crypt.{repeated}
use Rattle.ftp_secret.specs.Hashing.{Takes}
use Rattle.ftp_secret.proofs.hashing.Hasher.take_repeated.Given as goal

abbrev pub invariant-times : goal.invariant-times
invariant-times l = Takes l.initial.self (repeated l.piece l.i) l.self
