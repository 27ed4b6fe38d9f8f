use Rattle.ftp_mode.proofs.LawLemmas.{front_again, front_marked}
use Rattle.ftp_mode.proofs.laws.front.Goals as goal

pub returns-clause-plain : goal.returns-clause-plain
returns-clause-plain c = front_again

pub returns-clause-marked : goal.returns-clause-marked
returns-clause-marked c = front_marked
