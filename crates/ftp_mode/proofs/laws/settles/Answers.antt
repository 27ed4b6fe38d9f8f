use Rattle.ftp_mode.proofs.ExactLemmas.{front_says, says_front}
use Rattle.ftp_mode.proofs.laws.settles.Goals as goal

pub returns : goal.returns
returns c = λ m s w said fits. (front_says m s w said fits, says_front m s w said fits)
