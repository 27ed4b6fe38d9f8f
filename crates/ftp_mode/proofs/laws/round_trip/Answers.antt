use Rattle.ftp_mode.proofs.LawLemmas.{again, again_behind, again_marked}
use Rattle.ftp_mode.proofs.laws.round_trip.Goals as goal

pub returns-clause-plain : goal.returns-clause-plain
returns-clause-plain c = again

pub returns-clause-behind : goal.returns-clause-behind
returns-clause-behind c = again_behind

pub returns-clause-marked : goal.returns-clause-marked
returns-clause-marked c = again_marked
