use Rattle.ftp_secret.proofs.hashing.Hasher.+take_by_digits.Given as goal

abbrev pub decreases-take_by_digits : goal.decreases-take_by_digits
decreases-take_by_digits l = l.number
