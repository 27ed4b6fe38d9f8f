use Rattle.ftp_facts.proofs.MomentValueLemmas.{moment_says, says_moment}
use Rattle.ftp_facts.proofs.laws.moment_is_said.Goals as goal

pub returns : goal.returns
returns c = λ text seconds. (moment_says text seconds, says_moment text seconds)
