use Rattle.std.proofs.Common.{length}
use Rattle.ftp_secret.proofs.reading.+number_behind.Given as goal

abbrev pub decreases-number_behind : goal.decreases-number_behind
decreases-number_behind l = length l.octets.now
