use Rattle.std.proofs.Common.{length}
use Rattle.ftp_secret.proofs.reading.+ends_kind.Given as goal

abbrev pub decreases-ends_kind : goal.decreases-ends_kind
decreases-ends_kind l = length l.octets.now
