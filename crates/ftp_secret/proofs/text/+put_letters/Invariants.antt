use Rattle.ftp_secret.proofs.text.+put_letters.Given as goal

abbrev pub decreases-put_letters : goal.decreases-put_letters
decreases-put_letters l = l.count
