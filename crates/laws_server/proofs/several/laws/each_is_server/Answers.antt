use Rattle.laws_server.proofs.several.OwnLemmas.{each_is_server, maps_follow}
use Rattle.laws_server.proofs.several.laws.each_is_server.Goals as goal

pub returns : goal.returns
returns c = record { own = each_is_server; maps = maps_follow }
