use Rattle.laws_server.proofs.one.FarLemmas.{far_stays_small}
use Rattle.laws_server.proofs.one.laws.servers_stay_small.Goals as goal

pub returns : goal.returns
returns c = far_stays_small
